-- What stands in C's buffer of a text that was made of a datagram, or that memory ran out for.
use Rattle.rtnl_c.proofs.Common.{Bounds, Answer, Answers, ◌≡◌, ◌++◌, List, [], ℕ, Bool, Result, Ok, Err, IfOk, is_accepted}
use Rattle.std.specs.declared.alloc.AllocError.{AllocError}
use Rattle.rtnl_c.specs.declared.show.Shown.{Shown}
use Rattle.rtnl_c.specs.Shown.{IsShown, Printed, ShowsAs, shows, refused}

module _ (printed : Printed) (b : Bounds) (number : ℕ) (d old : List ℕ) where
  pub shows_so : (made : Result Bool AllocError) (start items text new : List ℕ) (a : Shown) → start ≡ [] → text ≡ items
      → IfOk made (λ taken. (answer : Answer) × Answers b d answer × (items ≡ start ++ printed b.shape.order number d answer) × (taken ≡ is_accepted answer))
      → IsShown made text old new a → ShowsAs printed b number d old new a
  shows_so (Ok taken) start items text new a none same made is = rw (is.0, is.1, same, made.2, none) (shows made.0 made.1)
  shows_so (Err e) start items text new a none same made is = rw (is.0, is.1) refused
