-- State lines: what is read is spelled so, and what is spelled so is read.
use Rattle.std.proofs.Common.{◌≡◌, ℕ, ◌+◌, List, ◌++◌, length, drop, true, Option, Some, None, Ok, refl, sym, ap, subst, ◌∙◌, append_assoc, arith}
use Rattle.std.specs.Prelude.{decimal, codes, map}
use Rattle.std.proofs.lemmas.List.{length-append}
use Rattle.harp_types.specs.declared.server.ServerId.{ServerId}
use Rattle.harp_types.specs.declared.state.Mode.{Mode}
use Rattle.harp_types.specs.declared.state.Mode.TheVariants as mode
use Rattle.harp_types.specs.declared.state.Role.{Role}
use Rattle.harp_types.specs.declared.state.Role.TheVariants as role
use Rattle.harp_types.specs.declared.state.StateLine.{StateLine}
use Rattle.trace_types.specs.declared.line.Line.{Line}
use Rattle.trace_types.specs.declared.line.Line.TheVariants as lines
use Rattle.text_spelling.specs.Text.{spaced}
use Rattle.text_spelling.specs.Lines.{view_text, held_text, mode_text, role_text, state_text}
use Rattle.schedule_text.specs.Fields.{Read, ◌>>=◌, EndsWord, spaced_at}
use Rattle.schedule_text.proofs.Places.{Spells, Spells-then, IsField, drop_past, bind_ok, ok_is, read_of}
use Rattle.schedule_text.proofs.FieldLaws.{server_text}
use Rattle.schedule_text.proofs.Faults.{PlacedReader, Placed}
use Rattle.schedule_text.proofs.Faults as faults
use Rattle.schedule_text.specs.Reading.{spaced_server_at}
use Rattle.schedule_text.proofs.Rows.{IsRow, count_row, server_row, both_row, spaced_row, made_takes, made_again, made_placed}
use Rattle.trace_text.specs.declared.state.RoleForm.{RoleForm}
use Rattle.trace_text.specs.declared.state.RoleForm.TheVariants as roles
use Rattle.trace_text.specs.Fields.{◌⊗◌, value_named}
use Rattle.trace_text.specs.Reading.{mode_word, modes, mode_at, role_name, role_forms, role_fields_at, role_at, Parts, parts_at, state_of, state_in, state_at}
use Rattle.trace_text.specs.Fits.{IsCount, ViewFits, StateFits}
use Rattle.trace_text.proofs.Pieces.{respelled, mark_row}
use Rattle.trace_text.proofs.Named.{Any, is_word, value_unique, naming_field, naming_placed, IsByName, by_field, by_placed}
use Rattle.trace_text.proofs.AttrLaws.{view_row}
use Rattle.trace_text.proofs.MessageLaws.{three_row, held_row}

-- ---- roles

abbrev spaced_server : ServerId → List ℕ
spaced_server s = spaced (server_text s)

abbrev role_form : Role → RoleForm
role_form (role.Leads partner) = roles.Leads
role_form (role.Follows leader) = roles.Follows
role_form role.Outside = roles.Outside

abbrev role_rest : Role → List ℕ
role_rest (role.Leads partner) = spaced_server partner
role_rest (role.Follows leader) = spaced_server leader
role_rest role.Outside = spaced (codes "-")

role_parts : (r : Role) → role_text r ≡ role_name (role_form r) ++ role_rest r
role_parts (role.Leads partner) = refl
role_parts (role.Follows leader) = refl
role_parts role.Outside = refl

abbrev IsOf : RoleForm → Role → Type 0
IsOf n r = Unit {0} × (role_form r ≡ n)

abbrev outside_of : Unit {0} → Role
outside_of u = role.Outside

role_take : (n : RoleForm) (line : List ℕ) (at : ℕ) (x : Role × ℕ)
    → role_fields_at n line at ≡ Ok x → Spells line at (role_rest x.0) x.1 × IsOf n x.0
unfolding role_fields_at
role_take roles.Leads line at x e =
    made_takes server_row role.Leads role_rest (IsOf roles.Leads) (λ a f. (refl, (tt, refl)))
    line at x e
role_take roles.Follows line at x e =
    made_takes server_row role.Follows role_rest (IsOf roles.Follows) (λ a f. (refl, (tt, refl)))
    line at x e
role_take roles.Outside line at x e =
    made_takes (mark_row 45 (omega arith)) outside_of role_rest (IsOf roles.Outside)
    (λ a f. (refl, (tt, refl))) line at x e

role_give : (r : Role) (line : List ℕ) (at : ℕ) (rest : List ℕ) → EndsWord rest
    → drop at line ≡ role_rest r ++ rest
    → role_fields_at (role_form r) line at ≡ Ok (r, at + length (role_rest r))
unfolding role_fields_at
role_give (role.Leads partner) line at rest ends e =
    made_again server_row role.Leads partner tt line at rest ends e
role_give (role.Follows leader) line at rest ends e =
    made_again server_row role.Follows leader tt line at rest ends e
role_give role.Outside line at rest ends e =
    made_again (mark_row 45 (omega arith)) outside_of tt tt line at rest ends e

role_ends : (r : Role) (rest : List ℕ) → EndsWord rest → EndsWord (role_rest r ++ rest)
role_ends (role.Leads partner) rest ends = refl
role_ends (role.Follows leader) rest ends = refl
role_ends role.Outside rest ends = refl

role_placed : (n : RoleForm) → PlacedReader (role_fields_at n)
unfolding role_fields_at
role_placed roles.Leads line at = made_placed server_row role.Leads line at
role_placed roles.Follows line at = made_placed server_row role.Follows line at
role_placed roles.Outside line at = made_placed (mark_row 45 (omega arith)) outside_of line at

role_again : (n : RoleForm) → value_named role_name role_forms (role_name n) ≡ Some n
role_again roles.Leads = refl
role_again roles.Follows = refl
role_again roles.Outside = refl

role_word : (n : RoleForm) → is_word (role_name n) ≡ true
role_word roles.Leads = refl
role_word roles.Follows = refl
role_word roles.Outside = refl

roles_by_name : IsByName (value_named role_name role_forms) role_fields_at role_name
    role_form role_rest Any EndsWord
roles_by_name = record {
  unique = value_unique role_name role_forms;
  again = λ r fits. role_again (role_form r);
  word = role_word;
  take = λ n line at x means e. role_take n line at x e;
  give = λ r line at rest fits ends within e. role_give r line at rest ends e;
  ends = role_ends;
  placed = role_placed;
}

role_field : IsField role_at role_text Any
unfolding role_at
role_field = respelled role_text role_parts (by_field (map role_name role_forms) roles_by_name)

role_all_placed : PlacedReader role_at
unfolding role_at
role_all_placed = by_placed (map role_name role_forms) roles_by_name

role_row : IsRow (spaced_at role_at) (λ r. spaced (role_text r)) Any
role_row = spaced_row role_at role_text Any role_field role_all_placed

-- ---- modes

mode_again : (m : Option Mode) → value_named mode_word modes (mode_word m) ≡ Some m
mode_again None = refl
mode_again (Some mode.Rests) = refl
mode_again (Some mode.Calls) = refl
mode_again (Some mode.Joined) = refl
mode_again (Some mode.Pulls) = refl
mode_again (Some mode.Waits) = refl
mode_again (Some mode.Open) = refl
mode_again (Some mode.Live) = refl

mode_is_word : (m : Option Mode) → is_word (mode_word m) ≡ true
mode_is_word None = refl
mode_is_word (Some mode.Rests) = refl
mode_is_word (Some mode.Calls) = refl
mode_is_word (Some mode.Joined) = refl
mode_is_word (Some mode.Pulls) = refl
mode_is_word (Some mode.Waits) = refl
mode_is_word (Some mode.Open) = refl
mode_is_word (Some mode.Live) = refl

mode_row : IsRow (spaced_at mode_at) (λ m. spaced (mode_word m)) Any
mode_row = spaced_row mode_at mode_word Any
    (naming_field mode_word modes (record { again = mode_again; word = mode_is_word }))
    (naming_placed mode_word modes)

-- ---- states

abbrev Shown : Type 0
Shown = ServerId × Option Mode

shown_row : IsRow (spaced_server_at ⊗ spaced_at mode_at)
    (λ x. spaced_server x.0 ++ spaced (mode_word x.1)) (λ x. Unit {0} × Any x.1)
shown_row = both_row server_row mode_row

abbrev numbers_text : (((ℕ × ℕ) × ℕ) × ℕ) × ℕ → List ℕ
numbers_text x =
    spaced (decimal x.0.0.0.0) ++ spaced (decimal x.0.0.0.1) ++ spaced (decimal x.0.0.1)
    ++ spaced (decimal x.0.1) ++ spaced (decimal x.1)

-- what stands behind the mode
abbrev parts_text : Parts → List ℕ
parts_text x =
    spaced (view_text x.0.0.0.0) ++ spaced (view_text x.0.0.0.1) ++ spaced (role_text x.0.0.1)
    ++ spaced (held_text x.0.1) ++ numbers_text x.1

abbrev PartsFit : Parts → Type 0
PartsFit x =
    (((ViewFits x.0.0.0.0 × ViewFits x.0.0.0.1) × Any x.0.0.1) × Any x.0.1)
    × ((((IsCount x.1.0.0.0.0 × IsCount x.1.0.0.0.1) × IsCount x.1.0.0.1) × IsCount x.1.0.1)
    × IsCount x.1.1)

parts_row : IsRow parts_at parts_text PartsFit
unfolding parts_at
parts_row =
    both_row (both_row (both_row (both_row view_row view_row) role_row) held_row)
    (both_row (both_row three_row count_row) count_row)

abbrev parts_of : StateLine → Parts
parts_of s = (
  (((s.promised, s.accepted), s.role), s.held),
  ((((s.base, s.lb), s.ap), s.cp), s.top),
)

abbrev up_of : ServerId → Mode → Parts → Line
up_of server m x = lines.State server (state_of m x)

-- what stands behind the name of a state line
abbrev pub up_text : ServerId → StateLine → List ℕ
up_text server s = (spaced_server server ++ spaced (mode_text s.mode)) ++ parts_text (parts_of s)

abbrev pub down_text : ServerId → List ℕ
down_text server = spaced_server server ++ spaced (codes "down")

state_fits : (m : Mode) (x : Parts) → PartsFit x → StateFits (state_of m x)
state_fits m x f = record {
  promised = f.0.0.0.0;
  accepted = f.0.0.0.1;
  base = f.1.0.0.0.0;
  lb = f.1.0.0.0.1;
  ap = f.1.0.0.1;
  cp = f.1.0.1;
  top = f.1.1;
}

parts_fit : (s : StateLine) → StateFits s → PartsFit (parts_of s)
parts_fit s f = (
  (((f.promised, f.accepted), tt), tt),
  ((((f.base, f.lb), f.ap), f.cp), f.top),
)

-- what is said of a line that was read
module _ (rest : Line → List ℕ) (Says : Line → Type 0)
    (up : (server : ServerId) (s : StateLine) → StateFits s
    → (rest (lines.State server s) ≡ up_text server s) × Says (lines.State server s))
    (down : (server : ServerId)
    → (rest (lines.Down server) ≡ down_text server) × Says (lines.Down server)) where
  abbrev Good : List ℕ → ℕ → Line × ℕ → Type 0
  Good line at x = Spells line at (rest x.0) x.1 × Says x.0

  in_takes : (line : List ℕ) (at next : ℕ) (server : ServerId) (m : Option Mode) (x : Line × ℕ)
      → Spells line at (spaced_server server ++ spaced (mode_word m)) next
      → state_in server m line next ≡ Ok x → Good line at x
  in_takes line at next server None x front e =
      let d = down server in
      subst (Good line at) (ok_is (lines.Down server, next) x e)
      (subst (λ (l : List ℕ). Spells line at l next) (sym d.0) front, d.1)
  in_takes line at next server (Some m) x front e =
      let p = bind_ok (parts_at line next) (λ y. read_of (up_of server m y.0) y.1) x e in
      let t = parts_row.field.takes line next p.0 p.1 in
      let u = up server (state_of m p.0.0) (state_fits m p.0.0 t.1) in
      let whole = Spells-then line at (spaced_server server ++ spaced (mode_text m)) next
      (parts_text p.0.0) p.0.1 front t.0 in
      subst (Good line at) (ok_is (up_of server m p.0.0, p.0.1) x p.2)
      (subst (λ (l : List ℕ). Spells line at l p.0.1) (sym u.0) whole, u.1)

  pub state_takes : (line : List ℕ) (at : ℕ) (x : Line × ℕ) → state_at line at ≡ Ok x
      → Spells line at (rest x.0) x.1 × Says x.0
  unfolding state_at
  state_takes line at x e =
      let p = bind_ok ((spaced_server_at ⊗ spaced_at mode_at) line at)
      (λ shown. state_in shown.0.0 shown.0.1 line shown.1) x e in
      in_takes line at p.0.1 p.0.0.0 p.0.0.1 x (shown_row.field.takes line at p.0 p.1).0 p.2

abbrev shown_says : List ℕ → Shown × ℕ → Read Line
shown_says line shown = state_in shown.0.0 shown.0.1 line shown.1

pub down_again : (line : List ℕ) (at : ℕ) (server : ServerId) (rest : List ℕ) → EndsWord rest
    → drop at line ≡ down_text server ++ rest
    → state_at line at ≡ Ok (lines.Down server, at + length (down_text server))
unfolding state_at
down_again line at server rest ends e =
    ap (λ (o : Read Shown). o >>= shown_says line)
    (shown_row.field.again line at (server, None) rest (tt, tt) ends e)

pub up_again : (line : List ℕ) (at : ℕ) (server : ServerId) (s : StateLine) (rest : List ℕ)
    → StateFits s → EndsWord rest → drop at line ≡ up_text server s ++ rest
    → state_at line at ≡ Ok (lines.State server s, at + length (up_text server s))
unfolding state_at
up_again line at server s rest fits ends e =
    let front = spaced_server server ++ spaced (mode_text s.mode) in
    let behind = parts_text (parts_of s) in
    let here : drop at line ≡ front ++ (behind ++ rest) = e ∙ append_assoc front behind rest in
    let one = shown_row.field.again line at (server, Some s.mode) (behind ++ rest) (tt, tt)
    (parts_row.apart (parts_of s) rest) here in
    let mid = at + length front in
    let two = made_again parts_row (up_of server s.mode) (parts_of s) (parts_fit s fits) line mid rest
    ends (drop_past line at front (behind ++ rest) here) in
    let end : mid + length behind ≡ at + length (up_text server s) = omega
    (arith, length-append front behind) in
    ap (λ (o : Read Shown). o >>= shown_says line) one ∙ two
    ∙ ap (read_of (lines.State server s)) end

pub state_placed : PlacedReader state_at
unfolding state_at
state_placed line at =
    faults.bind ((spaced_server_at ⊗ spaced_at mode_at) line at) _ (shown_row.placed line at)
    (λ shown. by shown.0.0 shown.0.1 line shown.1)
  where
    by : (server : ServerId) (m : Option Mode) → PlacedReader (state_in server m)
    by server None line at = tt
    by server (Some m) line at = made_placed parts_row (up_of server m) line at

-- seven texts in a row, the second of them drawn to the first
drawn : (s m a b r h n : List ℕ)
    → s ++ (m ++ a ++ b ++ r ++ h ++ n) ≡ (s ++ m) ++ (a ++ b ++ r ++ h ++ n)
drawn s m a b r h n =
    let behind : m ++ (a ++ b ++ r ++ h ++ n) ≡ m ++ a ++ b ++ r ++ h ++ n =
    sym (append_assoc m (a ++ b ++ r ++ h) n)
    ∙ ap (λ (l : List ℕ). l ++ n) (sym (append_assoc m (a ++ b ++ r) h)
    ∙ ap (λ (l : List ℕ). l ++ h) (sym (append_assoc m (a ++ b) r)
    ∙ ap (λ (l : List ℕ). l ++ r) (sym (append_assoc m a b)))) in
    ap (λ (l : List ℕ). s ++ l) (sym behind) ∙ sym (append_assoc s m (a ++ b ++ r ++ h ++ n))

-- the text of a state, by its parts
pub state_spelled : (server : ServerId) (s : StateLine)
    → spaced_server server ++ spaced (state_text s) ≡ up_text server s
unfolding state_text
state_spelled server s =
    drawn (spaced_server server) (spaced (mode_text s.mode)) (spaced (view_text s.promised))
    (spaced (view_text s.accepted)) (spaced (role_text s.role)) (spaced (held_text s.held))
    (numbers_text ((((s.base, s.lb), s.ap), s.cp), s.top))
