-- What a call answers that writes behind the bytes of a buffer.
use Rattle.std.specs.Prelude.{◌≡◌, ◌<◌, ◌+◌, ◌++◌, ◌↔◌, ℕ, List, Result, Err, IfOk, IfErr, vec_len, vec_capacity}
use Rattle.std.specs.Global.{Vec}
use Rattle.nl_attr.specs.declared.fault.WriteError.{WriteError}
use Rattle.nl_attr.specs.declared.fault.WriteError.TheVariants.{Mismatch, TooDeep, TooLong, Memory}
use Rattle.nl_attr.specs.declared.tree.Ctx.{Ctx}
use Rattle.nl_attr.specs.Shape.{Shape}
use Rattle.nl_attr.specs.Tree.{Items}
use Rattle.nl_attr.specs.Layout.{Fits}
use Rattle.nl_attr.specs.Written.{written as bytes_of, items_len}
use Rattle.nl_attr.specs.Proper.{IsRefused}

-- what is refused, how many bytes are written and which, and what holds of them
pub record Writes (Refused : WriteError → Type 0) (len : ℕ) (bytes : List ℕ) (Again : Type 0)
    (old new : Vec ℕ) (r : Result (Unit {0}) WriteError) : Type 0 where
  pub mismatch : (r ≡ Err Mismatch) ↔ Refused Mismatch
  pub deep : (r ≡ Err TooDeep) ↔ Refused TooDeep
  pub long : (r ≡ Err TooLong) ↔ Refused TooLong
  -- otherwise it is written, unless memory runs out
  pub written : IfOk r (λ _. new.items ≡ old.items ++ bytes)
  pub unchanged : IfErr r (λ _. new.items ≡ old.items)
  -- memory runs out only where there was no room
  pub memory : r ≡ Err Memory → vec_capacity old < vec_len old + len
  -- what is written is what is read again
  pub again : IfOk r (λ _. Again)

-- a list in a context, each attribute with its padding: it fits what is written
abbrev pub WritesList : Shape → Items → Ctx → Vec ℕ → Vec ℕ → Result (Unit {0}) WriteError → Type 0
WritesList S is ctx = Writes (IsRefused is ctx S.depth) (items_len is) (bytes_of S.order is) (Fits S is (bytes_of S.order is) ctx 0)
