-- The lengths that a run's buffers keep, and what fits them.
-- Assumes nothing.
use mathlib.Core.List.{List, ◌++◌}
use mathlib.Core.Path.{◌≡◌}
use Prim.Native.Nat.{ℕ, ◌*◌, ◌≤◌}
use native.Mathlib.Omega.{arith}
use lib.ListN.{length, take, drop, length-append, length-drop}
use lib.Seq.{length-take-le}
use Rattle.paper.specs.Sizes.{MESSAGE_MAX, STORE, PARTS, PART}
use Rattle.lines.specs.Lines.{MESSAGE_LINE_MAX}
use Rattle.linking.specs.Linking.{CALL_MAX, STEP_MAX}
use Rattle.walking.specs.declared.Job.{Job}
use Rattle.walking.specs.declared.Job.TheVariants.{Client, Strict, Desk, Link}
use Rattle.walking.specs.declared.Told.TheVariants.{Lines, Messages, Moves, Totals}
use Rattle.walking.specs.Walking.{room_told, room_for, store_for}

pub record Sized (store₀ buffer₀ out₀ store buffer out : List ℕ) (had laid : ℕ) : Type 0 where
  pub store_long : length store ≡ length store₀
  pub buffer_long : length buffer ≡ length buffer₀
  pub out_long : length out ≡ length out₀
  -- what is left of the input, and what is laid of text
  pub had_in : had ≤ length buffer
  pub laid_in : laid ≤ length out

-- a front that was lent has come back
pub come_back : (front l : List ℕ) (n : ℕ) → n ≤ length l → length front ≡ length (take n l) → length (front ++ drop n l) ≡ length l
come_back front l n h e = omega (arith, length-append front (drop n l), length-drop n l, length-take-le n l h)

-- the output buffer has room for any text of any job
pub any_text_fits : (job : Job) → room_for job ≤ 65536
unfolding room_for room_told STEP_MAX CALL_MAX MESSAGE_LINE_MAX MESSAGE_MAX
any_text_fits (Client Lines) = omega arith
any_text_fits (Client Messages) = omega arith
any_text_fits (Client Moves) = omega arith
any_text_fits (Client Totals) = omega arith
any_text_fits (Strict fromServer) = omega arith
any_text_fits Desk = omega arith
any_text_fits Link = omega arith

-- the store has room for any job's
pub any_store_fits : (job : Job) → store_for job ≤ 2 * STORE
unfolding store_for STORE PARTS PART
any_store_fits (Client told) = omega arith
any_store_fits (Strict fromServer) = omega arith
any_store_fits Desk = omega arith
any_store_fits Link = omega arith
