-- Whether the server sent the PDUs, or the client, by the program's argument: `strict server` or `strict client`.
use Rattle.std.specs.Prelude.{ℕ, Bool, true, false, cond, List, [], ◌∷◌, Option, Some, None}
use Rattle.listeners.specs.Listeners.{same_bytes}

-- "server"
abbrev pub SERVER : List ℕ
SERVER = 115 ∷ 101 ∷ 114 ∷ 118 ∷ 101 ∷ 114 ∷ []

-- "client"
abbrev pub CLIENT : List ℕ
CLIENT = 99 ∷ 108 ∷ 105 ∷ 101 ∷ 110 ∷ 116 ∷ []

unfoldable pub named_by : List ℕ → Option Bool
named_by word = cond (same_bytes word SERVER) (Some true) (cond (same_bytes word CLIENT) (Some false) None)
