-- `strict::named` meets its contract: its tests are the definition's.
use mathlib.Core.Path.{◌≡◌, sym, ◌∙◌}
use mathlib.Core.Bool.{true, false}
use mathlib.Core.List.{List}
use Prim.Native.Nat.{ℕ}
use lib.Dec.{eqb}
use lib.Pointwise.{pointwise, bytes_decides}
use Rattle.listeners.specs.Listeners.{same_bytes}
use Rattle.listeners.proofs.Matches.{compared}
use Rattle.strict.specs.Senders.{SERVER, CLIENT, named_by}
use Rattle.strict.proofs.named.Goals as goal

-- equal slices are bytes that are the same
same : (a b : List ℕ) → pointwise eqb a b ≡ same_bytes a b
same a b = compared a b (pointwise eqb a b) (bytes_decides a b).0 (bytes_decides a b).1

pub returns-then-eq : goal.returns-then-eq
unfolding named_by
returns-then-eq c =
    let server = same c.args.word.now SERVER in
    let is : same_bytes c.args.word.now SERVER ≡ true = sym server ∙ (sym c.eq.ensures ∙ c.if-eq.true) in
    rw is

pub returns-then-eq-2 : goal.returns-then-eq-2
unfolding named_by
returns-then-eq-2 c =
    let not_server : same_bytes c.args.word.now SERVER ≡ false = sym (same c.args.word.now SERVER) ∙ (sym c.eq.ensures ∙ c.if-eq.false) in
    let is : same_bytes c.args.word.now CLIENT ≡ true = sym (same c.args.word.now CLIENT) ∙ (sym c.eq-2.ensures ∙ c.if-eq-2.true) in
    rw (not_server, is)

pub returns : goal.returns
unfolding named_by
returns c =
    let not_server : same_bytes c.args.word.now SERVER ≡ false = sym (same c.args.word.now SERVER) ∙ (sym c.eq.ensures ∙ c.if-eq.false) in
    let not_client : same_bytes c.args.word.now CLIENT ≡ false = sym (same c.args.word.now CLIENT) ∙ (sym c.eq-2.ensures ∙ c.if-eq-2.false) in
    rw (not_server, not_client)
