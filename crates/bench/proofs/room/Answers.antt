-- `bench::room` meets its contract. The length is cited, since the zeros are too many to count out.
use Rattle.std.proofs.Common.{◌≡◌, ℕ, length, replicate, sym}
use Rattle.std.proofs.lemmas.List.{length-replicate}
use Rattle.bench.proofs.room.Goals as goal

zeros_long : (n : ℕ) → n ≡ length {A = ℕ} (replicate n 0)
zeros_long n = sym (length-replicate n 0)

pub returns : goal.returns
returns c = zeros_long 2097153
