-- A walk through the records of the input on its way: what is left of it leads to the same end, and what goes out stands one behind the
-- other.
-- Assumes nothing.
use mathlib.Core.Path.{◌≡◌, refl, ap, ◌∙◌}
use mathlib.Core.List.{List, [], ◌++◌}
use Prim.Native.Nat.{ℕ, ◌+◌, ◌*◌, ◌≤◌, ◌<◌}
use native.Mathlib.Omega.{arith}
use lib.ListN.{length, take, drop}
use Rattle.lists.specs.Bytes.{laid}
use Rattle.lists.proofs.Laid.{laid_next}
use Rattle.lines.proofs.Ends.{ends}
use Rattle.records.specs.Walks.{front_of, records_of, size_of}
use Rattle.records.proofs.Items as items
use Rattle.blocks.specs.Block.{BLOCK, PAYLOAD}
use Rattle.linklog.specs.Records.{record_of, entry_in}
use Rattle.logging.specs.declared.Course.{Course}
use Rattle.logging.specs.Input.{input_whole}
use Rattle.logging.specs.Writing.{Run, run_of, run_after, turned_to}
use Rattle.logging.proofs.Inputs.{input_framing, logged_le}
use Rattle.logging.proofs.Steps.{behind}
use Rattle.logging.proofs.Fills.{so_far, so_far_le, fills}

-- a walk that has taken `at` bytes and laid `used` bytes, with its course and room now
pub record Left (c : Course) (input room₀ out₀ room out : List ℕ) (next : Course) (at used : ℕ) : Type 0 where
  -- what went out so far
  pub text : List ℕ
  pub leads : items.Left input_framing entry_in run_after (run_of c room₀ []) input (run_of next room text) at
  pub so_far_law : out ≡ laid out₀ 0 text
  pub used_is : used ≡ length text
  pub long : length room ≡ length room₀
  pub filled : PAYLOAD * used + BLOCK * so_far next.log room ≤ BLOCK * (so_far c.log room₀ + at)

-- it begins with nothing taken and nothing laid
pub begins : (c : Course) (input room out : List ℕ) → Left c input room out room out c 0 0
unfolding laid
begins c input room out =
    record {
      text = [];
      leads = (omega arith, (refl, omega arith));
      so_far_law = refl;
      used_is = refl;
      long = refl;
      filled = omega arith;
    }

module _ (c : Course) (input room₀ out₀ room out : List ℕ) (next : Course) (at used : ℕ) (left : Left c input room₀ out₀ room out next at used) where
  -- the record in front is taken
  module _ (n : ℕ) (e : n ≡ input_whole (drop at input)) (some : 0 < n) (there : at + n ≤ length input) where
    -- what it makes of course and room, and what goes out
    abbrev then : Run
    then = run_after (run_of next room []) (entry_in (take n (drop at input)))

    front_le : length (record_of (entry_in (take n (drop at input)))) ≤ n
    unfolding front_of
    front_le = rw e (logged_le (drop at input) (rw (← e) some))

    pub goes_on_law : (room' out' : List ℕ) (next' : Course) (k : ℕ) → next' ≡ then.course → k ≡ length then.text → room' ≡ then.room
        → out' ≡ laid out used then.text → length room' ≡ length room → Left c input room₀ out₀ room' out' next' (at + n) (used + k)
    unfolding front_of
    goes_on_law room' out' next' k is-next is_long is-room is-out same =
        let entry = entry_in (take n (drop at input)) in
        let on = items.goes_on_law input_framing entry_in run_after (run_of c room₀ []) input (run_of next room left.text) at n left.leads e some there in
        let more = fills next room entry in
        record {
          text = left.text ++ then.text;
          leads = rw (is-next, is-room) (rw (← e, behind next room left.text entry) at on);
          so_far_law = laid_next out₀ out out' left.text then.text used left.used_is left.so_far_law is-out;
          used_is = ends left.text then.text left.used_is is_long;
          long = same ∙ left.long;
          filled = rw (is-next, is-room) (omega (arith, left.filled, more, front_le, is_long));
        }

  -- it ends where no whole record stands
  pub ends_so : input_whole (drop at input) ≡ 0
      → ((next ≡ (turned_to c room₀ input).kept.course)
      × ((used ≡ length (turned_to c room₀ input).kept.text) × (PAYLOAD * used ≤ BLOCK * (length input + PAYLOAD))))
      × (((at ≡ size_of (records_of input_whole input)) × (at ≤ length input))
      × ((room ≡ (turned_to c room₀ input).kept.room) × (out ≡ laid out₀ 0 (turned_to c room₀ input).kept.text)))
  ends_so none =
      let end = items.ends input_framing entry_in run_after (run_of c room₀ []) input (run_of next room left.text) at left.leads none in
      let text = ap (λ (r : Run). r.text) end.0 in (
        (ap (λ (r : Run). r.course) end.0, (left.used_is ∙ ap length text, omega (arith, left.filled, so_far_le c.log room₀, end.1.1))),
        (end.1, (ap (λ (r : Run). r.room) end.0, left.so_far_law ∙ ap (laid out₀ 0) text)),
      )
