-- Tables of one value for each server.
use Rattle.std.proofs.Common.{◌≡◌, refl}
use Rattle.group_rules.specs.Names.{id_of, place_of}
use Rattle.group_rules.specs.Places.{Zero, One, Two, Place, at}
use Rattle.harp_types.specs.Trio.{value_of, with_value}
use Rattle.harp_types.specs.declared.server.ServerId.{ServerId}
use Rattle.harp_types.specs.declared.server.ServerId.TheVariants as server
use Rattle.harp_types.specs.declared.trio.Trio.{Trio}

-- what holds of one server's new value and of the other servers' old ones holds of each
pub each_value : {T : Type 0} (P : ServerId → T → Type 0) (t : Trio T) (s : ServerId) (x : T)
    → ((y : ServerId) → (place_of y ≡ place_of s → ⊥) → P y (value_of t y)) → P s x
    → (y : ServerId) → P y (value_of (with_value t s x) y)
each_value P t server.Zero x others own server.Zero = own
each_value P t server.Zero x others own server.One = others server.One (λ e. cc)
each_value P t server.Zero x others own server.Two = others server.Two (λ e. cc)
each_value P t server.One x others own server.Zero = others server.Zero (λ e. cc)
each_value P t server.One x others own server.One = own
each_value P t server.One x others own server.Two = others server.Two (λ e. cc)
each_value P t server.Two x others own server.Zero = others server.Zero (λ e. cc)
each_value P t server.Two x others own server.One = others server.One (λ e. cc)
each_value P t server.Two x others own server.Two = own

pub value_there : {T : Type 0} (t : Trio T) (s : ServerId) (x : T)
    → value_of (with_value t s x) s ≡ x
value_there t server.Zero x = refl
value_there t server.One x = refl
value_there t server.Two x = refl

pub id_there : (s : ServerId) → id_of (place_of s) ≡ s
id_there server.Zero = refl
id_there server.One = refl
id_there server.Two = refl

pub at_other : {A : Type 0} (f : Place → A) (q x : Place) (a : A) → (x ≡ q → ⊥) → at f q a x ≡ f x
at_other f Zero Zero a n = absurd (n refl)
at_other f Zero One a n = refl
at_other f Zero Two a n = refl
at_other f One Zero a n = refl
at_other f One One a n = absurd (n refl)
at_other f One Two a n = refl
at_other f Two Zero a n = refl
at_other f Two One a n = refl
at_other f Two Two a n = absurd (n refl)
