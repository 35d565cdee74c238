-- What an answer says of the size of a datagram.
use Rattle.std.proofs.Common.{◌≢◌, ◌≡◌, ◌<◌, ◌≤◌, ◌↔◌, ℕ, Result, Err, arith}

-- an answer that isn't too large is of a datagram within the limit
pub within : {X E : Type 0} {large : E} (r : Result X E) (most len : ℕ) → (r ≡ Err large) ↔ (most < len) → r ≢ Err large → len ≤ most
within r most len large other = let fits : most < len → ⊥ = λ h. other (large.1 h) in omega (arith, fits)
