-- The result of a call with the allocator and two values to change.
use Rattle.std.specs.Prelude.{◌≡◌}
use denote.Param.Members.{Once}
use denote.Ref.{MutBor}
use Rattle.std.specs.Global.{Global}

-- A call of f with the allocator, a `&mut` to x and a `&mut` to y may return r and change x to x' and y to y'.
pub record ReturnsWith {F X Y R : Type 0}
    (g : Once F (Global × (MutBor X × (MutBor Y × Unit {0}))) (R × (MutBor X × (MutBor Y × Unit {0}))))
    (f : F) (x : X) (y : Y) (r : R) (x' : X) (y' : Y) : Type 0 where
  pub alloc : Global
  pub first : MutBor X
  pub first_is : first.now ≡ x
  pub second : MutBor Y
  pub second_is : second.now ≡ y
  pub first_left : MutBor X
  pub second_left : MutBor Y
  pub called : g.post f (alloc, (first, (second, tt))) (r, (first_left, (second_left, tt)))
  pub first_leaves : first_left.now ≡ x'
  pub second_leaves : second_left.now ≡ y'
