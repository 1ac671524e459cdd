-- The readers of fields fail with a place alone, never for want of memory.
use Rattle.std.proofs.Common.{ℕ, ◌+◌, Bool, true, false, cond, eqb, List, get_or, drop, Option, Some, None, Result, Ok, Err}
use Rattle.schedule_text.specs.declared.fault.TextFault.{TextFault}
use Rattle.schedule_text.specs.declared.fault.TextFault.TheVariants.{Grammar, NoMemory}
use Rattle.text_spelling.specs.Text.{is_left_time}
use Rattle.schedule_text.specs.Fields.{Reader, ◌>>=◌, space_at, spaced_at, longer, number_from, number_at, u32_at, server_of, server_at, pairs_from, is_odd_at, hex_at, left_time, time_at, dash_or, number_field_at, mode_field_at, time_field_at, comma_at, later_at, later_number_at, set_attr_at}

abbrev pub Placed : {A : Type 0} → Result A TextFault → Type 0
Placed (Ok x) = Unit {0}
Placed (Err (Grammar n)) = Unit {0}
Placed (Err NoMemory) = ⊥

pub bind : {A B : Type 0} (r : Result A TextFault) (f : A → Result B TextFault) → Placed r
    → ((x : A) → Placed (f x)) → Placed (r >>= f)
bind (Ok x) f p q = q x
bind (Err (Grammar n)) f p q = tt
bind (Err NoMemory) f p q = absurd p

pub choice : {A : Type 0} (b : Bool) (x y : Result A TextFault) → Placed x → Placed y
    → Placed (cond b x y)
choice true x y p q = p
choice false x y p q = q

pub option : {A B : Type 0} (o : Option A) (at : ℕ) (f : A → B)
    → Placed (elim o [ None ↦ Err (Grammar at) | Some x ↦ Ok (f x) ])
option None at f = tt
option (Some x) at f = tt

abbrev pub PlacedReader : {A : Type 0} → Reader A → Type 0
PlacedReader r = (line : List ℕ) (at : ℕ) → Placed (r line at)

pub space : (line : List ℕ) (at : ℕ) → Placed (space_at line at)
space line at = choice (eqb (get_or line at 0) 32) _ _ tt tt

pub spaced : {A : Type 0} (r : Reader A) → PlacedReader r → PlacedReader (spaced_at r)
spaced r p line at =
    bind (space_at line at) (λ from. r line from) (space line at) (λ from. p line from)

pub number : (base most : ℕ) → PlacedReader (number_at base most)
unfolding number_at
number base most line at =
    choice (eqb (get_or line at 0) 48) _ _ tt
    (option (longer base most 0 (get_or line at 0)) at
    (λ n. number_from base most (drop (at + 1) line) n (at + 1)))

pub server : PlacedReader server_at
server line at = option (server_of (get_or line at 0)) at (λ s. (s, at + 1))

pub name : (most : ℕ) → PlacedReader (hex_at most)
unfolding hex_at
name most line at =
    choice (eqb (get_or line at 0) 45) _ _ tt
    (choice (is_odd_at most line (pairs_from most line at)) _ _ tt
    (choice (eqb (pairs_from most line at).1 at) _ _ tt tt))

pub time : PlacedReader time_at
unfolding time_at
time line at =
    bind (u32_at line at) _ (number 10 4294967295 line at)
    (λ s. choice (eqb (get_or line s.1 0) 58)
    _ _ (bind (number_at 10 _ line (s.1 + 1)) _ (number 10 _ line (s.1 + 1)) (λ m. tt)) tt)

pub dash : {A : Type 0} (none : A) (r : Reader A) → PlacedReader r → PlacedReader (dash_or none r)
dash none r p line at = choice (eqb (get_or line at 0) 45) _ _ tt (p line at)

pub later : {A : Type 0} (r : Reader A) (is_left : A → Bool) (none : A) (due : Bool)
    → PlacedReader r → PlacedReader (later_at r is_left none due)
later r is_left none due p line at =
    bind (comma_at due line at) _ (choice (eqb (get_or line at 0) 44) _ _ tt (choice due _ _ tt tt))
    (λ comma. choice comma _ _ (bind (r line (at + 1)) _ (p line (at + 1)) (λ x. tt)) tt)

pub number_field : PlacedReader number_field_at
unfolding number_field_at
number_field line at = dash _ (number_at 10 4294967294) (number 10 4294967294) line at

pub mode_field : PlacedReader mode_field_at
unfolding mode_field_at
mode_field line at = dash _ (number_at 8 4095) (number 8 4095) line at

pub time_field : PlacedReader time_field_at
unfolding time_field_at
time_field line at = dash left_time time_at time line at

pub later_number : (due : Bool) → PlacedReader (later_number_at due)
later_number due line at = later number_field_at _ _ due number_field line at

pub set_attr : PlacedReader set_attr_at
unfolding set_attr_at
set_attr line at =
    bind (mode_field_at line at) _ (mode_field line at) (λ m.
    bind (later_number_at false line m.1) _ (later_number false line m.1) (λ u.
    bind (later_number_at u.0.1 line u.1) _ (later_number u.0.1 line u.1) (λ g.
    bind (later_number_at g.0.1 line g.1) _ (later_number g.0.1 line g.1) (λ s.
    bind (later_at time_field_at is_left_time left_time s.0.1 line s.1)
    _ (later time_field_at is_left_time left_time s.0.1 time_field line s.1) (λ a.
    bind (later_at time_at is_left_time left_time a.0.1 line a.1)
    _ (later time_at is_left_time left_time a.0.1 time line a.1) (λ t. tt))))))
