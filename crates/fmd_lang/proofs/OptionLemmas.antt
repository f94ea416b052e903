-- Lemmas about options.
use Rattle.std.proofs.Common.{◌≡◌, ◌≢◌, Option, Some, None, refl, Bool, true, false, cond}
use Rattle.std.specs.Option.{option_or, option_and_then, option_map_or}

pub or-none : {A : Type 0} (a b : Option A) → option_or a b ≡ None → (a ≡ None) × (b ≡ None)
or-none None b h = (refl, h)
or-none (Some x) b h = cc

pub or-other : {A : Type 0} {x : A} (a b : Option A) → a ≢ Some x → b ≢ Some x → option_or a b ≢ Some x
or-other None b one other = other
or-other (Some y) b one other = one

pub cond-none : {A : Type 0} (b : Bool) (x : A) (o : Option A) → cond b (Some x) o ≡ None → o ≡ None
cond-none true x o h = cc
cond-none false x o h = h

pub and-then-some : {A B : Type 0} (o : Option A) (f : A → Option B) (y : B) → option_and_then f o ≡ Some y →
    (x : A) × (o ≡ Some x) × (f x ≡ Some y)
and-then-some None f y h = cc
and-then-some (Some x) f y h = (x, refl, h)

pub map_or-none : {A B : Type 0} (f : A → Option B) (o : Option A) (y : B) → option_map_or f o (Some y) ≡ None →
    (x : A) × (o ≡ Some x) × (f x ≡ None)
map_or-none f None y h = absurd cc
map_or-none f (Some x) y h = (x, refl, h)
