-- Records that fit in so many bytes: those bytes hold them, and behind them the beginning of the next.
-- Assumes nothing.
use mathlib.Core.Path.{◌≡◌, refl, ◌∙◌}
use mathlib.Core.Logic.{⊎_elim}
use mathlib.Core.Bool.{cond}
use mathlib.Core.List.{List, [], ◌∷◌, ◌++◌}
use Prim.Native.Nat.{ℕ, ◌+◌, ◌-◌, ◌≤◌, ◌<◌}
use native.Mathlib.Omega.{arith}
use borrow.Author.Tests.{le-leb, lt-leb}
use lib.Dec.{leb}
use lib.ListN.{length, take}
use lib.Seq.{take-append-le, take-nil, take_at, drop_at}
use Rattle.lists.proofs.Cases.{lt_or_le}
use Rattle.records.specs.Walks.{front_of, records_of, size_of, rest_of}
use Rattle.records.specs.Items.{all_of}
use Rattle.records.proofs.Framings.{records_none, records_first}
use Rattle.records.proofs.Rests.{rest_none, rest_first}
use Rattle.linklog.specs.Records.{logged_whole}
use Rattle.linklog.specs.Promises.{fit}
use Rattle.linklog.proofs.Blocks.{take_behind}
use Rattle.linklog.proofs.Framing.{log_framing, IsRecord, AreRecords}

-- the records that don't fit in so many bytes,
unfoldable pub unfit : ℕ → List (List ℕ) → List (List ℕ)
unfit m [] = []
unfit m (bytes ∷ rest) = cond (leb (length bytes) m) (unfit (m - length bytes) rest) (bytes ∷ rest)

-- and the bytes that are left over for them
unfoldable pub over : ℕ → List (List ℕ) → ℕ
over m [] = m
over m (bytes ∷ rest) = cond (leb (length bytes) m) (over (m - length bytes) rest) m

-- fewer bytes than the first has, if there is one
abbrev pub Short : ℕ → List (List ℕ) → Type 0
Short m [] = Unit {0}
Short m (bytes ∷ rest) = m < length bytes

-- every record has a byte
pub begun : (rs : List (List ℕ)) → AreRecords rs → Short 0 rs
begun [] are = tt
begun (bytes ∷ rest) are = are.0.some

-- ---- the first fits, or it doesn't

module _ (m : ℕ) (bytes : List ℕ) (rest : List (List ℕ)) where
  pub fit_first : length bytes ≤ m → fit m (bytes ∷ rest) ≡ bytes ∷ fit (m - length bytes) rest
  unfolding fit
  fit_first h = rw (le-leb (length bytes) m h)

  pub unfit_first : length bytes ≤ m → unfit m (bytes ∷ rest) ≡ unfit (m - length bytes) rest
  unfolding unfit
  unfit_first h = rw (le-leb (length bytes) m h)

  pub over_first : length bytes ≤ m → over m (bytes ∷ rest) ≡ over (m - length bytes) rest
  unfolding over
  over_first h = rw (le-leb (length bytes) m h)

  pub fit_none : m < length bytes → fit m (bytes ∷ rest) ≡ []
  unfolding fit
  fit_none h = rw (lt-leb (length bytes) m h)

  pub unfit_none : m < length bytes → unfit m (bytes ∷ rest) ≡ bytes ∷ rest
  unfolding unfit
  unfit_none h = rw (lt-leb (length bytes) m h)

  pub over_none : m < length bytes → over m (bytes ∷ rest) ≡ m
  unfolding over
  over_none h = rw (lt-leb (length bytes) m h)

-- a law of numbers and records that holds where there is none, where the first fits if it holds for the rest, and where it doesn't fit
pub by_fit : (P : ℕ → List (List ℕ) → Type 0) → ((m : ℕ) → P m [])
    → ((m : ℕ) (bytes : List ℕ) (rest : List (List ℕ)) → length bytes ≤ m → P (m - length bytes) rest → P m (bytes ∷ rest))
    → ((m : ℕ) (bytes : List ℕ) (rest : List (List ℕ)) → m < length bytes → P m (bytes ∷ rest)) → (m : ℕ) (rs : List (List ℕ)) → P m rs
by_fit P none first short m [] = none m
by_fit P none first short m (bytes ∷ rest) =
    ⊎_elim
    (λ (h : m < length bytes). short m bytes rest h)
    (λ (h : length bytes ≤ m). first m bytes rest h (by_fit P none first short (m - length bytes) rest))
    (lt_or_le m (length bytes))

-- fewer bytes are left over than the next has
pub over_short : (m : ℕ) (rs : List (List ℕ)) → Short (over m rs) (unfit m rs)
unfolding unfit
over_short =
    by_fit (λ m rs. Short (over m rs) (unfit m rs)) (λ m. tt)
    (λ m bytes rest h later. rw (over_first m bytes rest h, unfit_first m bytes rest h) later)
    (λ m bytes rest h. rw (over_none m bytes rest h, unfit_none m bytes rest h) h)

-- what fits and what is left over are all
pub fit_size_law : (m : ℕ) (rs : List (List ℕ)) → size_of (fit m rs) + over m rs ≡ m
unfolding fit over size_of
fit_size_law =
    by_fit (λ m rs. size_of (fit m rs) + over m rs ≡ m) (λ m. omega arith)
    (λ m bytes rest h later. rw (fit_first m bytes rest h, over_first m bytes rest h) (omega (arith, later)))
    (λ m bytes rest h. rw (fit_none m bytes rest h, over_none m bytes rest h) (omega arith))

-- all fit where there is room for all
pub fit_all : (m : ℕ) (rs : List (List ℕ)) → size_of rs ≤ m → fit m rs ≡ rs
unfolding fit size_of
fit_all =
    by_fit (λ m rs. size_of rs ≤ m → fit m rs ≡ rs) (λ m g. refl)
    (λ m bytes rest h later g. rw (fit_first m bytes rest h, later (omega arith)))
    (λ m bytes rest h g. absurd (omega arith))

-- with more room: what fits, and of the others what fits with what is left over
pub fit_more : (n m : ℕ) (rs : List (List ℕ)) → fit (m + n) rs ≡ fit m rs ++ fit (over m rs + n) (unfit m rs)
unfolding fit unfit
fit_more n =
    by_fit (λ m rs. fit (m + n) rs ≡ fit m rs ++ fit (over m rs + n) (unfit m rs)) (λ m. refl)
    (λ m bytes rest h later.
    let less : m + n - length bytes ≡ m - length bytes + n = omega arith in
    fit_first (m + n) bytes rest (omega arith)
    ∙ rw (less, later, fit_first m bytes rest h, over_first m bytes rest h, unfit_first m bytes rest h) refl)
    (λ m bytes rest h. rw (fit_none m bytes rest h, over_none m bytes rest h, unfit_none m bytes rest h) refl)

-- ---- what the bytes tell

-- the first bytes of records' bytes, where the first record fits
take_first : (m : ℕ) (bytes rest : List ℕ) → length bytes ≤ m → take m (bytes ++ rest) ≡ bytes ++ take (m - length bytes) rest
take_first m bytes rest h = take_behind m (m - length bytes) bytes rest (omega arith)

module _ (bytes behind : List ℕ) (is : IsRecord bytes) where
  -- a record in front is the first
  first_is : records_of logged_whole (bytes ++ behind) ≡ bytes ∷ records_of logged_whole behind
  unfolding front_of
  first_is =
      let n = is.whole behind in
      records_first log_framing (bytes ++ behind) (rw n is.some)
      ∙ rw (n, take_at bytes behind (length bytes) refl, drop_at bytes behind (length bytes) refl)

  rest_is : rest_of logged_whole (bytes ++ behind) ≡ rest_of logged_whole behind
  rest_is =
      let n = is.whole behind in
      rest_first log_framing (bytes ++ behind) (rw n is.some) ∙ rw (n, drop_at bytes behind (length bytes) refl)

-- of no bytes no record is told
none_whole : logged_whole [] ≡ 0
none_whole = omega (arith, log_framing.fits [])

-- the records that fit are told
pub fit_told : (m : ℕ) (rs : List (List ℕ)) → AreRecords rs → records_of logged_whole (take m (all_of rs)) ≡ fit m rs
unfolding all_of fit
fit_told =
    by_fit (λ m rs. AreRecords rs → records_of logged_whole (take m (all_of rs)) ≡ fit m rs)
    (λ m are. rw (take-nil m) (records_none logged_whole [] none_whole))
    (λ m bytes rest h later are.
    rw (take_first m bytes (all_of rest) h, fit_first m bytes rest h, first_is bytes (take (m - length bytes) (all_of rest)) are.0, later are.1))
    (λ m bytes rest h are.
    rw (take-append-le m bytes (all_of rest) (omega arith), fit_none m bytes rest h) (records_none logged_whole (take m bytes) (are.0.part m h)))

-- and of the next as many bytes are left as are left over
pub over_told : (m : ℕ) (rs : List (List ℕ)) → AreRecords rs → rest_of logged_whole (take m (all_of rs)) ≡ take (over m rs) (all_of (unfit m rs))
unfolding all_of unfit
over_told =
    by_fit (λ m rs. AreRecords rs → rest_of logged_whole (take m (all_of rs)) ≡ take (over m rs) (all_of (unfit m rs)))
    (λ m are. rw (take-nil m, take-nil (over m [])) (rest_none logged_whole [] none_whole))
    (λ m bytes rest h later are.
    rw (
      take_first m bytes (all_of rest) h,
      over_first m bytes rest h,
      unfit_first m bytes rest h,
      rest_is bytes (take (m - length bytes) (all_of rest)) are.0,
      later are.1,
    ))
    (λ m bytes rest h are.
    rw (over_none m bytes rest h, unfit_none m bytes rest h, take-append-le m bytes (all_of rest) (omega arith))
    (rest_none logged_whole (take m bytes) (are.0.part m h)))

-- records behind records that fit are records
pub unfit_are : (m : ℕ) (rs : List (List ℕ)) → AreRecords rs → AreRecords (unfit m rs)
unfolding unfit
unfit_are =
    by_fit (λ m rs. AreRecords rs → AreRecords (unfit m rs)) (λ m are. tt)
    (λ m bytes rest h later are. rw (unfit_first m bytes rest h) (later are.1))
    (λ m bytes rest h are. rw (unfit_none m bytes rest h) are)
