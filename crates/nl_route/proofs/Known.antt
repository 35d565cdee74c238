-- Heads that are known by their fields.
use Rattle.std.proofs.Common.{◌≡◌, ℕ, List, [], length, sym, ap, subst, ◌∙◌, arith}
use Rattle.nl_attr.specs.declared.order.Order.{Order}
use Rattle.nl_attr.specs.Numbers.{AreBytes}
use Rattle.nl_route.specs.Fields.{Field, AreFields, AreRanged, IsHeadOf, IsWrittenHead, written, read_at}
use Rattle.nl_route.proofs.Fields.{size_of, read_sound, read_only, DoFit, read_written}

-- what is read of bytes has the fields that are read of them, and a head is made of its fields, of so many bytes
pub record IsKnown {H : Type 0} (size : ℕ) (fields : H → List Field) (of : Order → List ℕ → H) : Type 0 where
  pub is : (o : Order) (v : H) (bytes : List ℕ) → fields (of o bytes) ≡ read_at o (fields v) 0 bytes
  pub made : List Field → H
  pub back : (v : H) → made (fields v) ≡ v
  pub size_is : (v : H) → size_of (fields v) ≡ size

module _ {H : Type 0} {size : ℕ} {fields : H → List Field} {of : Order → List ℕ → H} (known : IsKnown size fields of) where
  one : (v w : H) → fields v ≡ fields w → v ≡ w
  one v w e = sym (known.back v) ∙ ap known.made e ∙ known.back w

  -- bytes have the fields of what is read of them
  pub fields_of_read : (o : Order) (bytes : List ℕ) → AreBytes bytes → length bytes ≡ size → AreFields o (fields (of o bytes)) bytes
  fields_of_read o bytes h e =
      let v : H = of o bytes in
      subst (λ (fs : List Field). AreFields o fs bytes) (sym (known.is o v bytes)) (read_sound o (fields v) 0 bytes h (omega (arith, known.size_is v, e)))

  -- and of nothing else
  pub read_of_fields : (o : Order) (v : H) (bytes : List ℕ) → AreFields o (fields v) bytes → v ≡ of o bytes
  read_of_fields o v bytes h = one v (of o bytes) (read_only o (fields v) 0 bytes h ∙ sym (known.is o v bytes))

  -- what is written of a head is read as it again
  read_of_written : (o : Order) (v : H) → DoFit (fields v) → of o (written o (fields v)) ≡ v
  read_of_written o v h = one (of o (written o (fields v))) v (known.is o v (written o (fields v)) ∙ read_written o (fields v) [] h)

  pub head_read : (o : Order) (bytes : List ℕ) (v : H) → AreBytes bytes → length bytes ≡ size → v ≡ of o bytes → IsHeadOf of fields o bytes v
  head_read o bytes v h e value = record {
    value = value;
    fields = subst (λ (w : H). AreFields o (fields w) bytes) (sym value) (fields_of_read o bytes h e);
    only = λ w are. read_of_fields o w bytes are ∙ sym value;
  }

  pub head_written : (o : Order) (v : H) (image : List ℕ) → DoFit (fields v) → AreRanged (fields v) → image ≡ written o (fields v) → IsWrittenHead of fields o v image
  head_written o v image fit ranged e = record { bytes = e; back = ap (of o) e ∙ read_of_written o v fit; ranged = ranged }
