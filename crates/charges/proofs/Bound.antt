-- Four parts of a whole, each rounded down, come to less than four short of it.
-- Assumes nothing.
use mathlib.Core.Path.{◌≡◌}
use Prim.Native.Nat.{ℕ, ◌+◌, ◌*◌, ◌/◌, ◌≤◌, ◌<◌}
use native.Mathlib.Nat.{add-mul, mul-add, lt-div-mul-add, div-mul-le_self, le_of_mul-le-mul_right, lt_of_mul-lt-mul_right}
use native.Mathlib.Omega.{arith}

four_times : (a b c d s : ℕ) → (a + b + c + d) * s ≡ a * s + b * s + c * s + d * s
four_times a b c d s = rw (add-mul (a + b + c) d s, add-mul (a + b) c s, add-mul a b s)

mul_four : (w a b c d : ℕ) → w * (a + b + c + d) ≡ w * a + w * b + w * c + w * d
mul_four w a b c d = rw (mul-add w (a + b + c) d, mul-add w (a + b) c, mul-add w a b)

-- w parts of a in s, and so for the others, where the four are s
pub four_parts : (w a b c d s : ℕ) → s ≡ a + b + c + d → 0 < s
    → (w < w * a / s + w * b / s + w * c / s + w * d / s + 4) × (w * a / s + w * b / s + w * c / s + w * d / s ≤ w)
four_parts w a b c d s e some =
    let q0 = w * a / s in
    let q1 = w * b / s in
    let q2 = w * c / s in
    let q3 = w * d / s in
    let q : ℕ = q0 + q1 + q2 + q3 in
    let times = four_times q0 q1 q2 q3 s in
    let whole : w * s ≡ w * a + w * b + w * c + w * d = rw e (mul_four w a b c d) in
    let over_a = lt-div-mul-add {a = w * a} some in
    let over_b = lt-div-mul-add {a = w * b} some in
    let over_c = lt-div-mul-add {a = w * c} some in
    let over_d = lt-div-mul-add {a = w * d} some in
    let low : w * s < (q + 4) * s = rw (add-mul q 4 s) (omega (arith, whole, times, over_a, over_b, over_c, over_d)) in
    let high : q * s ≤ w * s =
    omega (arith, whole, times, div-mul-le_self (w * a) s, div-mul-le_self (w * b) s, div-mul-le_self (w * c) s, div-mul-le_self (w * d) s) in
    (lt_of_mul-lt-mul_right s low, le_of_mul-le-mul_right high some)
