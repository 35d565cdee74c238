-- What is written of a head and of a body is that head and that body.
use Rattle.std.proofs.Common.{◌≡◌, ℕ, ◌+◌, List, ◌++◌, length, sym, subst, arith, length-append}
use Rattle.std.proofs.lemmas.List.{take_at, drop_at}
use Rattle.nl_attr.specs.declared.order.Order.{Order}
use Rattle.nl_attr.specs.declared.tree.Ctx.{Ctx}
use Rattle.nl_attr.specs.Shape.{Shape}
use Rattle.nl_attr.specs.Tree.{Items}
use Rattle.nl_attr.specs.Layout.{Fits}
use Rattle.nl_attr.specs.Written as attrs
use Rattle.nl_attr.proofs.Lemmas.Lengths.{length-items, grown}
use Rattle.nl_route.specs.Fields.{Field, AreFields, AreRanged, written}
use Rattle.nl_route.specs.Body.{IsObject, body_written}
use Rattle.nl_route.proofs.Fields.{written_has_fields}

-- the head has the bytes by which a body is longer than its attributes
pub head_length : (o : Order) (fs : List Field) (is : Items) (old new : List ℕ) (m n size : ℕ) → new ≡ old ++ (body_written o fs is) → m ≡ length old → n ≡ length new → n ≡ m + (size + attrs.items_len is)
    → length (written o fs) ≡ size
head_length o fs is old new m n size e f g h =
    omega (arith, grown m n old new (body_written o fs is) e f g, length-append (written o fs) (attrs.written o is), length-items o is, h)

module _ (S : Shape) where
  -- a head in its ranges and attributes that fit what is written of them are the body that is written of both
  pub body_is : (size : ℕ) (fs : List Field) (ctx : Ctx) (is : Items) → length (written S.order fs) ≡ size → AreRanged fs → Fits S is (attrs.written S.order is) ctx 0
      → IsObject S size fs ctx is (body_written S.order fs is)
  body_is size fs ctx is e r f =
      let front = written S.order fs in
      let rest = attrs.written S.order is in (
        omega (arith, length-append front rest, e),
        subst (AreFields S.order fs) (sym (take_at front rest size e)) (written_has_fields S.order fs r),
        subst (λ (xs : List ℕ). Fits S is xs ctx 0) (sym (drop_at front rest size e)) f,
      )
