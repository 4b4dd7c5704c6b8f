-- What comes of calls, one behind the other: the text of each is laid behind the text before, and each end's half of the store
-- is lent by itself.
-- Assumes nothing.
use mathlib.Core.Path.{◌≡◌, refl, sym, ap, ◌∙◌}
use mathlib.Core.Logic.{⊎_elim}
use mathlib.Core.List.{List, [], ◌++◌, append-nil}
use Prim.Native.Nat.{ℕ, ◌+◌, ◌-◌, ◌≤◌, ◌<◌, min}
use native.Mathlib.Omega.{arith}
use borrow.Rule.Slice.PartMut.{put_mid}
use borrow.Author.Tests.{eq-eqb, ne_eqb}
use lib.ListN.{length, take, drop, length-drop, length-take, drop_of_length-le}
use lib.Seq.{length-take-le, drop-append-le, take-append-le, take_all}
use Rattle.paper.specs.Sizes.{STORE}
use Rattle.lists.specs.Bytes.{laid}
use Rattle.lists.proofs.Cases.{lt_or_le}
use Rattle.lists.proofs.Laid.{laid_next, laid_past, back_end, take_least, to_end}
use Rattle.lists.proofs.Lent.{drop_least, rest_lent}
use Rattle.lines.proofs.Ends.{ends}
use Rattle.linking.specs.declared.Crossed.{Crossed}
use Rattle.linking.specs.Linking.{Both, Goes, stays, then, carry, Crosses}

-- ---- text behind text

-- a buffer too short for what was laid gets nothing behind it
as_far : (mid cs : List ℕ) (n from : ℕ) → from ≡ min n (length mid) → laid mid from cs ≡ laid mid n cs
as_far mid cs n from h =
    ⊎_elim
    (λ (k : n < length mid). let e : from ≡ n = omega arith in rw e)
    (λ (k : length mid ≤ n). laid_past mid from cs (omega arith) ∙ sym (laid_past mid n cs k))
    (lt_or_le n (length mid))

-- a part from a place on, laid and come back
pub over : (mid part cs : List ℕ) (n from : ℕ) → from ≡ min n (length mid) → part ≡ laid (take (length mid - from) (drop from mid)) 0 cs
    → put_mid from (length mid - from) mid part ≡ laid mid n cs
over mid part cs n from lent did = back_end mid from part cs (omega arith) did ∙ as_far mid cs n from lent

pub behind : (out mid part bs cs : List ℕ) (n from : ℕ) → n ≡ length bs → mid ≡ laid out 0 bs → from ≡ min n (length mid)
    → part ≡ laid (take (length mid - from) (drop from mid)) 0 cs
    → put_mid from (length mid - from) mid part ≡ laid out 0 (bs ++ cs)
behind out mid part bs cs n from long first lent did =
    laid_next out mid _ bs cs n long first (over mid part cs n from lent did)

-- ---- one thing, and then another

pub then_crosses : (g : Goes) (next : Both → Goes) (out mid : List ℕ) (told from most more : ℕ) {part store' : List ℕ} {r : Crossed}
    → told ≡ length g.text → told ≤ most → mid ≡ laid out 0 g.text → from ≡ min told (length mid)
    → Crosses (next g.both) more (take (length mid - from) (drop from mid)) r store' part
    → Crosses (then g next) (most + more) out (record { ends = r.ends; laid = told + r.laid }) store' (put_mid from (length mid - from) mid part)
unfolding then
then_crosses g next out mid told from most more {part} long fits first lent did =
    record {
      ends = did.ends;
      length_laid = ends g.text (next g.both).text long did.length_laid;
      fits = omega (arith, did.fits);
      stored = did.stored;
      lines = behind out mid part g.text (next g.both).text told from long first lent did.lines;
    }

pub then_stays : (g : Goes) (next : Both → Goes) (out mid : List ℕ) (told most more : ℕ) → next g.both ≡ stays g.both
    → told ≡ length g.text → told ≤ most → mid ≡ laid out 0 g.text
    → Crosses (then g next) (most + more) out (record { ends = g.both.ends; laid = told }) g.both.store mid
unfolding then
then_stays g next out mid told most more none long fits first =
    record {
      ends = sym (ap (λ (x : Goes). x.both.ends) none);
      length_laid = rw (none, append-nil) long;
      fits = omega arith;
      stored = sym (ap (λ (x : Goes). x.both.store) none);
      lines = rw (none, append-nil) first;
    }

-- what fits less fits more
pub wider : {g : Goes} {most more : ℕ} {out : List ℕ} {r : Crossed} {store' out' : List ℕ} → most ≤ more → Crosses g most out r store' out'
    → Crosses g more out r store' out'
wider h did =
    record {
      ends = did.ends;
      length_laid = did.length_laid;
      fits = omega (arith, did.fits);
      stored = did.stored;
      lines = did.lines;
    }

-- ---- what was sent

-- so many bytes of a buffer
pub sent_lent : (sent n : ℕ) (reply : List ℕ) → n ≡ min sent (length reply) → take n reply ≡ take sent reply
sent_lent sent n reply h = rw h (take_least sent reply)

pub nothing_sent : (sent n : ℕ) (reply : List ℕ) (across : Both → List ℕ → Goes) (b : Both) → n ≡ min sent (length reply) → n ≡ 0
    → carry (take sent reply) across b ≡ stays b
unfolding carry
nothing_sent sent n reply across b h none = rw (eq-eqb (length (take sent reply)) 0 (length-take sent reply ∙ omega arith))

pub something_sent : (sent n : ℕ) (reply : List ℕ) (across : Both → List ℕ → Goes) (b : Both) → n ≡ min sent (length reply) → (n ≡ 0 → ⊥)
    → carry (take sent reply) across b ≡ across b (take sent reply)
unfolding carry
something_sent sent n reply across b h some =
    rw (ne_eqb (length (take sent reply)) 0 (λ e. some (h ∙ sym (length-take sent reply) ∙ e)))

-- ---- the halves of the store

-- the panel's, lent
pub panel_lent : (store : List ℕ) (half : ℕ) → half ≡ min STORE (length store) → take half store ≡ take STORE store
panel_lent store half h = rw h (take_least STORE store)

-- and come back
pub panel_back : (store p : List ℕ) (half : ℕ) → half ≡ min STORE (length store) → p ++ drop half store ≡ p ++ drop STORE store
panel_back store p half h = rw (h, drop_least STORE store)

-- the shore's, lent
pub shore_lent : (store : List ℕ) (half : ℕ) → half ≡ min STORE (length store) → take (length store - half) (drop half store) ≡ drop STORE store
shore_lent store half h = rest_lent store STORE half h

-- and come back
pub shore_back : (store s : List ℕ) (half : ℕ) → half ≡ min STORE (length store)
    → put_mid half (length store - half) store s ≡ take STORE store ++ s
shore_back store s half h =
    let none : drop (length store - half) (drop half store) ≡ [] =
    drop_of_length-le (drop half store) {i = length store - half} (rw length-drop (omega arith)) in
    rw (none, append-nil) (ap (λ (front : List ℕ). front ++ s) (panel_lent store half h))

-- then it is lent again as it came back
pub shore_again : (store s : List ℕ) (half : ℕ) → half ≡ min STORE (length store)
    → take (length (put_mid half (length store - half) store s) - half) (drop half (put_mid half (length store - half) store s)) ≡ s
shore_again store s half h =
    to_end (put_mid half (length store - half) store s) half
    ∙ rw (shore_back store s half h, drop-append-le half (take STORE store) s (omega (arith, length-take STORE store)), drop_of_length-le (take STORE store) {i = half} (omega (arith, length-take STORE store)))

-- both halves lent, one after the other: the panel's has come back when the shore's is lent
pub second_lent : (store p : List ℕ) (half : ℕ) → half ≡ min STORE (length store) → length p ≡ length (take half store)
    → take (length (p ++ drop half store) - half) (drop half (p ++ drop half store)) ≡ drop STORE store
second_lent store p half h long =
    let size : length p ≡ half = long ∙ length-take-le half store (omega arith) in
    to_end (p ++ drop half store) half
    ∙ rw (drop-append-le half p (drop half store) (omega arith), drop_of_length-le p {i = half} (omega arith)) (rw h (drop_least STORE store))

pub second_back : (store p s : List ℕ) (half : ℕ) → half ≡ min STORE (length store) → length p ≡ length (take half store)
    → put_mid half (length (p ++ drop half store) - half) (p ++ drop half store) s ≡ p ++ s
second_back store p s half h long =
    let size : length p ≡ half = long ∙ length-take-le half store (omega arith) in
    let all = p ++ drop half store in
    let none : drop (length all - half) (drop half all) ≡ [] =
    drop_of_length-le (drop half all) {i = length all - half} (rw length-drop (omega arith)) in
    rw (none, append-nil, take-append-le half p (drop half store) (omega arith), take_all half p (omega arith)) refl
