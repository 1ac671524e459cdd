-- Calls that read: what is read is spelled so, what is spelled so is read, and an ask reads it too.
use Rattle.std.proofs.Common.{◌≡◌, ℕ, ◌+◌, Bool, true, false, cond, eqb, List, [], ◌∷◌, ◌++◌, length, get_or, drop, Option, Some, None, Result, Ok, Err, refl, sym, ap, subst, ◌∙◌, append_assoc, arith}
use Rattle.std.specs.Prelude.{find, is_some, codes, nat_eq}
use Rattle.std.specs.List.{starts_with}
use Rattle.std.specs.Str.{bytes_eq}
use Rattle.std.proofs.lemmas.Bool.{eqb-true}
use Rattle.harp_types.specs.Procedures.{procedure_of, procedure_name, procedure_named}
use Rattle.harp_types.specs.Update.{is_update}
use Rattle.harp_types.specs.declared.call.Call.{Call}
use Rattle.harp_types.specs.declared.call.Call.TheVariants as call
use Rattle.harp_types.specs.declared.cred.Cred.{Cred}
use Rattle.harp_types.specs.declared.cred.TheConstants.{SUPERUSER}
use Rattle.harp_types.specs.declared.procedure.Procedure.{Procedure}
use Rattle.harp_types.specs.declared.procedure.Procedure.TheVariants as procedure
use Rattle.text_spelling.specs.Text.{spaced, fields_text, call_text}
use Rattle.text_spelling.specs.Fits.{CallFits}
use Rattle.schedule_text.specs.declared.fault.TextFault.{TextFault}
use Rattle.schedule_text.specs.declared.fault.TextFault.TheVariants.{Grammar, NoMemory}
use Rattle.schedule_text.specs.Fields.{Gives, Read, ◌>>=◌, EndsWord, word_at, space_at, spaced_at}
use Rattle.schedule_text.specs.Words.{farthest}
use Rattle.schedule_text.proofs.Places.{Spells, spaced_field, byte_here, ok_is, passed, read_of}
use Rattle.schedule_text.proofs.Faults.{Placed, PlacedReader}
use Rattle.schedule_text.specs.Reading.{asked_names, fields_at, call_at, is_told_at, told_call_at, untold_call_at, asked_at}
use Rattle.schedule_text.proofs.Rows.{IsRow}
use Rattle.schedule_text.proofs.Words.{word_spells, word_stands, same_word, named_again, name_is_name}
use Rattle.schedule_text.proofs.CallLaws.{call_field, call_row}
use Rattle.observed_text.specs.Reading.{reads, read_names, is_read_name, read_at}

-- ---- the names of calls that read

parts : (c : Call) → call_text c ≡ procedure_name (procedure_of c) ++ fields_text c
unfolding call_text
parts c = refl

-- a read is found by its name
named_so : (c : Call) → is_update c ≡ false → is_read_name (procedure_name (procedure_of c)) ≡ true
named_so call.Null read = refl
named_so (call.GetAttr handle) read = refl
named_so (call.Lookup dir name) read = refl
named_so (call.ReadLink handle) read = refl
named_so (call.Read handle offset count) read = refl
named_so (call.ReadDir dir cookie count) read = refl
named_so (call.StatFs handle) read = refl
named_so (call.SetAttr handle attr) read = absurd cc
named_so (call.Write handle offset bytes) read = absurd cc
named_so (call.Create dir name attr) read = absurd cc
named_so (call.Remove dir name) read = absurd cc
named_so (call.Rename dir name to_dir to_name) read = absurd cc
named_so (call.Link handle dir name) read = absurd cc
named_so (call.SymLink dir name text attr) read = absurd cc
named_so (call.MkDir dir name attr) read = absurd cc
named_so (call.RmDir dir name) read = absurd cc

-- behind the name a space stands, or nothing
read_ends : (c : Call) (rest : List ℕ) → EndsWord rest → EndsWord (fields_text c ++ rest)
read_ends call.Null rest ends = ends
read_ends (call.GetAttr handle) rest ends = refl
read_ends (call.SetAttr handle attr) rest ends = refl
read_ends (call.Lookup dir name) rest ends = refl
read_ends (call.ReadLink handle) rest ends = refl
read_ends (call.Read handle offset count) rest ends = refl
read_ends (call.Write handle offset bytes) rest ends = refl
read_ends (call.Create dir name attr) rest ends = refl
read_ends (call.Remove dir name) rest ends = refl
read_ends (call.Rename dir name to_dir to_name) rest ends = refl
read_ends (call.Link handle dir name) rest ends = refl
read_ends (call.SymLink dir name text attr) rest ends = refl
read_ends (call.MkDir dir name attr) rest ends = refl
read_ends (call.RmDir dir name) rest ends = refl
read_ends (call.ReadDir dir cookie count) rest ends = refl
read_ends (call.StatFs handle) rest ends = refl

-- the word at the place of a call is its name
stands_name : (line : List ℕ) (at : ℕ) (c : Call) (rest : List ℕ) → EndsWord (fields_text c ++ rest)
    → drop at line ≡ call_text c ++ rest → word_at line at ≡ procedure_name (procedure_of c)
stands_name line at c rest ends e =
    let name = procedure_name (procedure_of c) in
    let front : drop at line ≡ name ++ (fields_text c ++ rest) =
    e ∙ ap (λ (l : List ℕ). l ++ rest) (parts c) ∙ append_assoc name (fields_text c) rest in
    word_stands line at name (fields_text c ++ rest) (name_is_name (procedure_of c)) ends front

both_ways : false ≡ true → ⊥
both_ways e = cc

-- no update has the name of a read
otherwise : (line : List ℕ) (at : ℕ) (c : Call) (rest : List ℕ) → EndsWord (fields_text c ++ rest)
    → is_read_name (procedure_name (procedure_of c)) ≡ false → drop at line ≡ call_text c ++ rest
    → is_read_name (word_at line at) ≡ true → ⊥
otherwise line at c rest ends none e named =
    both_ways (sym none ∙ ap is_read_name (sym (stands_name line at c rest ends e)) ∙ named)

reads_alone : (line : List ℕ) (at : ℕ) (c : Call) (rest : List ℕ) → drop at line ≡ call_text c ++ rest
    → is_read_name (word_at line at) ≡ true → is_update c ≡ false
reads_alone line at call.Null rest e named = refl
reads_alone line at (call.GetAttr handle) rest e named = refl
reads_alone line at (call.Lookup dir name) rest e named = refl
reads_alone line at (call.ReadLink handle) rest e named = refl
reads_alone line at (call.Read handle offset count) rest e named = refl
reads_alone line at (call.ReadDir dir cookie count) rest e named = refl
reads_alone line at (call.StatFs handle) rest e named = refl
reads_alone line at (call.SetAttr handle attr) rest e named =
    absurd (otherwise line at (call.SetAttr handle attr) rest refl refl e named)
reads_alone line at (call.Write handle offset bytes) rest e named =
    absurd (otherwise line at (call.Write handle offset bytes) rest refl refl e named)
reads_alone line at (call.Create dir name attr) rest e named =
    absurd (otherwise line at (call.Create dir name attr) rest refl refl e named)
reads_alone line at (call.Remove dir name) rest e named =
    absurd (otherwise line at (call.Remove dir name) rest refl refl e named)
reads_alone line at (call.Rename dir name to_dir to_name) rest e named =
    absurd (otherwise line at (call.Rename dir name to_dir to_name) rest refl refl e named)
reads_alone line at (call.Link handle dir name) rest e named =
    absurd (otherwise line at (call.Link handle dir name) rest refl refl e named)
reads_alone line at (call.SymLink dir name text attr) rest e named =
    absurd (otherwise line at (call.SymLink dir name text attr) rest refl refl e named)
reads_alone line at (call.MkDir dir name attr) rest e named =
    absurd (otherwise line at (call.MkDir dir name attr) rest refl refl e named)
reads_alone line at (call.RmDir dir name) rest e named =
    absurd (otherwise line at (call.RmDir dir name) rest refl refl e named)

-- ---- a call that reads

abbrev pub ReadFits : Call → Type 0
ReadFits c = CallFits c × (is_update c ≡ false)

abbrev read_by : List ℕ → ℕ → Bool → Read Call
read_by line at named =
    cond named (call_at true line at) (Err (Grammar (at + farthest read_names (word_at line at) 0)))

read_takes : (line : List ℕ) (at : ℕ) (x : Call × ℕ) → read_at line at ≡ Ok x
    → Spells line at (call_text x.0) x.1 × ReadFits x.0
unfolding read_at
read_takes line at x e =
    let p = passed (is_read_name (word_at line at))
    (Grammar (at + farthest read_names (word_at line at) 0)) (call_at true line at) x e in
    let t = (call_field true).takes line at x p.1 in
    (t.0, (t.1, reads_alone line at x.0 (drop x.1 line) t.0.parts p.0))

read_again : (line : List ℕ) (at : ℕ) (c : Call) (rest : List ℕ) → ReadFits c → EndsWord rest
    → drop at line ≡ call_text c ++ rest → read_at line at ≡ Ok (c, at + length (call_text c))
unfolding read_at
read_again line at c rest fits ends e =
    let word = stands_name line at c rest (read_ends c rest ends) e in
    ap (read_by line at) (ap is_read_name word ∙ named_so c fits.1)
    ∙ (call_field true).again line at c rest fits.0 ends e

read_placed : PlacedReader (spaced_at read_at)
unfolding read_at
read_placed line at = by (eqb (get_or line at 0) 32) ((call_row true).placed line at)
  where
    stop : (named : Bool) (from : ℕ) → Placed (call_at true line from)
        → Placed (read_by line from named)
    stop true from p = p
    stop false from p = tt

    by : (b : Bool)
        → Placed (cond b (Ok (at + 1)) (Err (Grammar at)) >>= λ from. call_at true line from)
        → Placed (cond b (Ok (at + 1)) (Err (Grammar at)) >>= λ from. read_at line from)
    by true p = stop (is_read_name (word_at line (at + 1))) (at + 1) p
    by false p = tt

pub read_row : IsRow (spaced_at read_at) (λ c. spaced (call_text c)) ReadFits
read_row = record {
  field = spaced_field read_at call_text ReadFits
      (record { takes = read_takes; again = read_again });
  placed = read_placed;
  apart = λ c rest. refl;
}

-- ---- an ask reads it too

-- one of these is the word's, or a later one
found_step : (b : Bool) (word : List ℕ) (n : Procedure) (rest : Option Procedure)
    → (b ≡ true → word ≡ procedure_name n)
    → (is_some rest ≡ true → (p : Procedure) × (word ≡ procedure_name p))
    → is_some (cond b (Some n) rest) ≡ true → (p : Procedure) × (word ≡ procedure_name p)
found_step true word n rest is more e = (n, is refl)
found_step false word n rest is more e = more e

found : (word : List ℕ) (names : List Procedure)
    → is_some (find (λ p. bytes_eq word (procedure_name p)) names) ≡ true
    → (p : Procedure) × (word ≡ procedure_name p)
found word [] e = absurd cc
found word (n ∷ names) e =
    found_step (bytes_eq word (procedure_name n)) word n
    (find (λ p. bytes_eq word (procedure_name p)) names)
    (same_word word (procedure_name n)) (found word names) e

abbrev begins_told : List ℕ → Bool
begins_told text = starts_with nat_eq text (codes " as")

-- no procedure's name begins with `as`
untold : (p : Procedure) (rest : List ℕ) → begins_told (32 ∷ (procedure_name p ++ rest)) ≡ false
untold procedure.Null rest = refl
untold procedure.GetAttr rest = refl
untold procedure.SetAttr rest = refl
untold procedure.Lookup rest = refl
untold procedure.ReadLink rest = refl
untold procedure.Read rest = refl
untold procedure.Write rest = refl
untold procedure.Create rest = refl
untold procedure.Remove rest = refl
untold procedure.Rename rest = refl
untold procedure.Link rest = refl
untold procedure.SymLink rest = refl
untold procedure.MkDir rest = refl
untold procedure.RmDir rest = refl
untold procedure.ReadDir rest = refl
untold procedure.StatFs rest = refl

untold_here : (line : List ℕ) (at : ℕ) (p : Procedure) → get_or line at 0 ≡ 32
    → word_at line (at + 1) ≡ procedure_name p → is_told_at line at ≡ false
untold_here line at p space is =
    let word = word_at line (at + 1) in
    let rest = drop (at + 1 + length word) line in
    let behind : drop (at + 1) line ≡ procedure_name p ++ rest =
    (word_spells line (at + 1)).parts ∙ ap (λ (l : List ℕ). l ++ rest) is in
    let front : drop at line ≡ 32 ∷ (procedure_name p ++ rest) =
    byte_here line at 32 space (omega arith) ∙ ap (λ (l : List ℕ). 32 ∷ l) behind in
    ap begins_told front ∙ untold p rest

-- a call whose name is known
abbrev name_read : Bool → List ℕ → ℕ → Option Procedure → Read Procedure
name_read told line at o =
    elim o [
      | None ↦ Err (Grammar (at + farthest (asked_names told) (word_at line at) 0))
      | Some p ↦ Ok (p, at + length (word_at line at))
    ]

call_is : (told : Bool) (line : List ℕ) (at : ℕ) (p : Procedure)
    → procedure_named (word_at line at) ≡ Some p
    → call_at told line at ≡ fields_at p line (at + length (word_at line at))
unfolding call_at
call_is told line at p e =
    ap (λ (o : Option Procedure). name_read told line at o >>= λ n. fields_at n.0 line n.1) e

abbrev superusers : Read Call → Read (Cred × Call)
superusers r = r >>= λ x. read_of (SUPERUSER, x.0) x.1

abbrev asked_by : List ℕ → ℕ → Bool → Read (Cred × Call)
asked_by line at told = cond told (told_call_at line (at + 3)) (untold_call_at line at)

asked_is : (line : List ℕ) (at from : ℕ) → space_at line at ≡ Ok from
    → is_read_name (word_at line from) ≡ true
    → asked_at line at ≡ superusers (call_at true line from)
unfolding asked_at
asked_is line at from space named =
    let here = passed (eqb (get_or line at 0) 32) (Grammar at) (Ok (at + 1)) from space in
    let next : at + 1 ≡ from = ok_is (at + 1) from here.1 in
    let f = found (word_at line from) reads named in
    let word : word_at line (at + 1) ≡ procedure_name f.0 = ap (word_at line) next ∙ f.1 in
    let known : procedure_named (word_at line from) ≡ Some f.0 =
    ap procedure_named f.1 ∙ named_again f.0 in
    let same : call_at false line from ≡ call_at true line from =
    call_is false line from f.0 known ∙ sym (call_is true line from f.0 known) in
    ap (asked_by line at)
    (untold_here line at f.0 (eqb-true (get_or line at 0) 32 here.0) word)
    ∙ ap (λ (r : Result ℕ TextFault). superusers (r >>= λ from. call_at false line from)) space
    ∙ ap superusers same

abbrev done : {A : Type 0} → A → Result A TextFault
done x = Ok x

gives_call : (r : Read (Cred × Call)) (c : Read Call) → Gives (λ x. x) r (superusers c)
    → Gives (λ x. (x.0.1, x.1)) r c
gives_call (Ok y) (Ok x) g =
    ap (λ (z : (Cred × Call) × ℕ). done (z.0.1, z.1)) (ok_is ((SUPERUSER, x.0), x.1) y g)
gives_call (Ok y) (Err f) g = absurd cc
gives_call (Err (Grammar n)) (Ok x) g = absurd cc
gives_call (Err (Grammar n)) (Err f) g = let same : f ≡ Grammar n = cc in ap (λ (d : TextFault). Err d) same
gives_call (Err NoMemory) c g = tt

spaced_is : (line : List ℕ) (at from : ℕ) → space_at line at ≡ Ok from
    → is_read_name (word_at line from) ≡ true → spaced_at read_at line at ≡ call_at true line from
unfolding read_at
spaced_is line at from space named =
    ap (λ (r : Result ℕ TextFault). r >>= λ from. read_at line from) space
    ∙ ap (read_by line from) named

pub asked_gives : (line : List ℕ) (at from : ℕ) (r : Read (Cred × Call))
    → space_at line at ≡ Ok from → is_read_name (word_at line from) ≡ true
    → Gives (λ x. x) r (asked_at line at)
    → Gives (λ x. (x.0.1, x.1)) r (spaced_at read_at line at)
asked_gives line at from r space named g =
    let call = gives_call r (call_at true line from)
    (subst (λ (a : Read (Cred × Call)). Gives (λ x. x) r a) (asked_is line at from space named) g) in
    subst (λ (a : Read Call). Gives (λ x. (x.0.1, x.1)) r a)
    (sym (spaced_is line at from space named)) call
