-- A reader's answer, opened where the bytes are known to lie inside: it is a number, and the one that stands there.
use Rattle.std.proofs.Common.{◌∙◌, arith, ℕ, ◌+◌, ◌≤◌, ◌≡◌, List, length, Option, Some, None}
use Rattle.fields.specs.declared.ByteOrder.{ByteOrder}
use Rattle.fields.specs.Number.{unsigned_at, field}
use Rattle.fields.proofs.Laws.{field_inside}

module _ {A : Type 0} (wrap : ℕ → A) (o : ByteOrder) (k : ℕ) (s : List ℕ) (off : ℕ) (inside : off + k ≤ length s) where
  pub is_number : {x : A} → Some x ≡ field wrap o k s off → x ≡ wrap (unsigned_at o k s off)
  is_number e = let same : ◌≡◌ {A = Option A} (Some _) (Some (wrap (unsigned_at o k s off))) = e ∙ field_inside wrap o k s off inside in cc same

  pub never_missing : {B : Type 0} → None ≡ field wrap o k s off → B
  never_missing e =
      let none : ◌≡◌ {A = Option A} None (Some (wrap (unsigned_at o k s off))) = e ∙ field_inside wrap o k s off inside in
      let never : ◌≡◌ {A = ℕ} 0 1 = cc none in absurd (omega arith)
