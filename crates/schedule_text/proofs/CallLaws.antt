-- Calls: what is read is spelled so, and what is spelled so is read.
use Rattle.std.proofs.Common.{◌≡◌, ℕ, ◌+◌, ◌^◌, ◌<◌, Bool, List, ◌++◌, length, drop, Ok, refl, sym, ap, subst, ◌∙◌, append_assoc, arith}
use Rattle.std.specs.Prelude.{decimal}
use Rattle.std.proofs.lemmas.List.{length-append}
use Rattle.harp_types.specs.Procedures.{procedure_of, procedure_name, procedure_named}
use Rattle.harp_types.specs.declared.call.Call.{Call}
use Rattle.harp_types.specs.declared.call.Call.TheVariants as call
use Rattle.harp_types.specs.declared.procedure.Procedure.{Procedure}
use Rattle.harp_types.specs.declared.procedure.Procedure.TheVariants as procedure
use Rattle.text_spelling.specs.Text.{spaced, hex_text, fields_text, call_text}
use Rattle.text_spelling.specs.Fits.{AreBytes, CallFits}
use Rattle.schedule_text.specs.Fields.{Read, ◌>>=◌, EndsWord, word_at, spaced_at}
use Rattle.schedule_text.specs.Words.{named_at}
use Rattle.schedule_text.proofs.Places.{Spells, Spells-then, IsField, drop_past, bind_ok, ok_is, read_of}
use Rattle.schedule_text.proofs.Faults.{PlacedReader}
use Rattle.schedule_text.proofs.Faults as faults
use Rattle.schedule_text.specs.Reading.{numbers_at, entry_at, fields_at, asked_names, call_at}
use Rattle.schedule_text.proofs.Rows.{IsRow, u32_row, name_row, bytes_row, attr_row, both_row, spaced_row, made_takes, made_again, made_placed}
use Rattle.schedule_text.proofs.Words.{word_spells, name_takes, name_again, name_placed, names_call, named_again, name_is_name}

-- ---- the name of a call, and its fields

call_parts : (c : Call) → call_text c ≡ procedure_name (procedure_of c) ++ fields_text c
unfolding call_text
call_parts c = refl

-- behind the name a space stands, or nothing
fields_end : (c : Call) (rest : List ℕ) → EndsWord rest → EndsWord (fields_text c ++ rest)
fields_end call.Null rest ends = ends
fields_end (call.GetAttr handle) rest ends = refl
fields_end (call.SetAttr handle attr) rest ends = refl
fields_end (call.Lookup dir name) rest ends = refl
fields_end (call.ReadLink handle) rest ends = refl
fields_end (call.Read handle offset count) rest ends = refl
fields_end (call.Write handle offset bytes) rest ends = refl
fields_end (call.Create dir name attr) rest ends = refl
fields_end (call.Remove dir name) rest ends = refl
fields_end (call.Rename dir name to_dir to_name) rest ends = refl
fields_end (call.Link handle dir name) rest ends = refl
fields_end (call.SymLink dir name text attr) rest ends = refl
fields_end (call.MkDir dir name attr) rest ends = refl
fields_end (call.RmDir dir name) rest ends = refl
fields_end (call.ReadDir dir cookie count) rest ends = refl
fields_end (call.StatFs handle) rest ends = refl

-- ---- the fields

entry_row : IsRow entry_at (λ x. spaced (decimal x.0) ++ spaced (hex_text x.1))
    (λ x. (x.0 < 2 ^ 32) × AreBytes 4096 x.1)
entry_row = both_row u32_row name_row

numbers_row : IsRow numbers_at (λ x. spaced (decimal x.0) ++ spaced (decimal x.1))
    (λ x. (x.0 < 2 ^ 32) × (x.1 < 2 ^ 32))
numbers_row = both_row u32_row u32_row

-- the call has this name, and fits
abbrev IsNamed : Procedure → Call → Type 0
IsNamed n c = CallFits c × (procedure_of c ≡ n)

nothing_takes : (line : List ℕ) (at : ℕ) (x : Call × ℕ) → read_of call.Null at ≡ Ok x
    → Spells line at (fields_text x.0) x.1 × IsNamed procedure.Null x.0
nothing_takes line at x e =
    subst (λ (y : Call × ℕ). Spells line at (fields_text y.0) y.1 × IsNamed procedure.Null y.0)
    (ok_is (call.Null, at) x e) (record { parts = refl; length_is = omega arith }, (tt, refl))

fields_take : (n : Procedure) (line : List ℕ) (at : ℕ) (x : Call × ℕ) → fields_at n line at ≡ Ok x
    → Spells line at (fields_text x.0) x.1 × IsNamed n x.0
unfolding fields_at
fields_take procedure.Null line at x e = nothing_takes line at x e
fields_take procedure.GetAttr line at x e =
    made_takes u32_row call.GetAttr fields_text (IsNamed procedure.GetAttr) (λ a f. (refl, (f, refl))) line at x e
fields_take procedure.SetAttr line at x e =
    made_takes (both_row u32_row attr_row) (λ x. call.SetAttr x.0 x.1) fields_text (IsNamed procedure.SetAttr)
    (λ a f. (refl, (f, refl))) line at x e
fields_take procedure.Lookup line at x e =
    made_takes entry_row (λ x. call.Lookup x.0 x.1) fields_text (IsNamed procedure.Lookup) (λ a f. (refl, (f, refl)))
    line at x e
fields_take procedure.ReadLink line at x e =
    made_takes u32_row call.ReadLink fields_text (IsNamed procedure.ReadLink) (λ a f. (refl, (f, refl))) line at x e
fields_take procedure.Read line at x e =
    made_takes (both_row numbers_row u32_row) (λ x. call.Read x.0.0 x.0.1 x.1) fields_text (IsNamed procedure.Read)
    (λ a f. (refl, ((f.0.0, f.0.1, f.1), refl))) line at x e
fields_take procedure.Write line at x e =
    made_takes (both_row numbers_row bytes_row) (λ x. call.Write x.0.0 x.0.1 x.1) fields_text (IsNamed procedure.Write)
    (λ a f. (refl, ((f.0.0, f.0.1, f.1), refl))) line at x e
fields_take procedure.Create line at x e =
    made_takes (both_row entry_row attr_row) (λ x. call.Create x.0.0 x.0.1 x.1) fields_text (IsNamed procedure.Create)
    (λ a f. (refl, ((f.0.0, f.0.1, f.1), refl))) line at x e
fields_take procedure.Remove line at x e =
    made_takes entry_row (λ x. call.Remove x.0 x.1) fields_text (IsNamed procedure.Remove) (λ a f. (refl, (f, refl)))
    line at x e
fields_take procedure.Rename line at x e =
    made_takes (both_row (both_row entry_row u32_row) name_row) (λ x. call.Rename x.0.0.0 x.0.0.1 x.0.1 x.1) fields_text (IsNamed procedure.Rename)
    (λ a f. (refl, ((f.0.0.0, f.0.0.1, f.0.1, f.1), refl))) line at x e
fields_take procedure.Link line at x e =
    made_takes (both_row numbers_row name_row) (λ x. call.Link x.0.0 x.0.1 x.1) fields_text (IsNamed procedure.Link)
    (λ a f. (refl, ((f.0.0, f.0.1, f.1), refl))) line at x e
fields_take procedure.SymLink line at x e =
    made_takes (both_row (both_row entry_row name_row) attr_row) (λ x. call.SymLink x.0.0.0 x.0.0.1 x.0.1 x.1) fields_text (IsNamed procedure.SymLink)
    (λ a f. (refl, ((f.0.0.0, f.0.0.1, f.0.1, f.1), refl))) line at x e
fields_take procedure.MkDir line at x e =
    made_takes (both_row entry_row attr_row) (λ x. call.MkDir x.0.0 x.0.1 x.1) fields_text (IsNamed procedure.MkDir)
    (λ a f. (refl, ((f.0.0, f.0.1, f.1), refl))) line at x e
fields_take procedure.RmDir line at x e =
    made_takes entry_row (λ x. call.RmDir x.0 x.1) fields_text (IsNamed procedure.RmDir) (λ a f. (refl, (f, refl)))
    line at x e
fields_take procedure.ReadDir line at x e =
    made_takes (both_row numbers_row u32_row) (λ x. call.ReadDir x.0.0 x.0.1 x.1) fields_text (IsNamed procedure.ReadDir)
    (λ a f. (refl, ((f.0.0, f.0.1, f.1), refl))) line at x e
fields_take procedure.StatFs line at x e =
    made_takes u32_row call.StatFs fields_text (IsNamed procedure.StatFs) (λ a f. (refl, (f, refl))) line at x e

fields_again : (c : Call) (line : List ℕ) (at : ℕ) (rest : List ℕ) → CallFits c → EndsWord rest
    → drop at line ≡ fields_text c ++ rest
    → fields_at (procedure_of c) line at ≡ Ok (c, at + length (fields_text c))
unfolding fields_at
fields_again call.Null line at rest f ends e = ap (λ (n : ℕ). read_of call.Null n) (omega arith)
fields_again (call.GetAttr handle) line at rest f ends e =
    made_again u32_row call.GetAttr handle f line at rest ends e
fields_again (call.SetAttr handle attr) line at rest f ends e =
    made_again (both_row u32_row attr_row) (λ x. call.SetAttr x.0 x.1) (handle, attr) f line at rest
    ends e
fields_again (call.Lookup dir name) line at rest f ends e =
    made_again entry_row (λ x. call.Lookup x.0 x.1) (dir, name) f line at rest ends e
fields_again (call.ReadLink handle) line at rest f ends e =
    made_again u32_row call.ReadLink handle f line at rest ends e
fields_again (call.Read handle offset count) line at rest f ends e =
    made_again (both_row numbers_row u32_row) (λ x. call.Read x.0.0 x.0.1 x.1)
    ((handle, offset), count) ((f.0, f.1), f.2) line at rest ends e
fields_again (call.Write handle offset bytes) line at rest f ends e =
    made_again (both_row numbers_row bytes_row) (λ x. call.Write x.0.0 x.0.1 x.1)
    ((handle, offset), bytes) ((f.0, f.1), f.2) line at rest ends e
fields_again (call.Create dir name attr) line at rest f ends e =
    made_again (both_row entry_row attr_row) (λ x. call.Create x.0.0 x.0.1 x.1) ((dir, name), attr)
    ((f.0, f.1), f.2) line at rest ends e
fields_again (call.Remove dir name) line at rest f ends e =
    made_again entry_row (λ x. call.Remove x.0 x.1) (dir, name) f line at rest ends e
fields_again (call.Rename dir name to_dir to_name) line at rest f ends e =
    made_again (both_row (both_row entry_row u32_row) name_row)
    (λ x. call.Rename x.0.0.0 x.0.0.1 x.0.1 x.1) (((dir, name), to_dir), to_name)
    (((f.0, f.1), f.2), f.3) line at rest ends e
fields_again (call.Link handle dir name) line at rest f ends e =
    made_again (both_row numbers_row name_row) (λ x. call.Link x.0.0 x.0.1 x.1)
    ((handle, dir), name) ((f.0, f.1), f.2) line at rest ends e
fields_again (call.SymLink dir name text attr) line at rest f ends e =
    made_again (both_row (both_row entry_row name_row) attr_row)
    (λ x. call.SymLink x.0.0.0 x.0.0.1 x.0.1 x.1) (((dir, name), text), attr)
    (((f.0, f.1), f.2), f.3) line at rest ends e
fields_again (call.MkDir dir name attr) line at rest f ends e =
    made_again (both_row entry_row attr_row) (λ x. call.MkDir x.0.0 x.0.1 x.1) ((dir, name), attr)
    ((f.0, f.1), f.2) line at rest ends e
fields_again (call.RmDir dir name) line at rest f ends e =
    made_again entry_row (λ x. call.RmDir x.0 x.1) (dir, name) f line at rest ends e
fields_again (call.ReadDir dir cookie count) line at rest f ends e =
    made_again (both_row numbers_row u32_row) (λ x. call.ReadDir x.0.0 x.0.1 x.1)
    ((dir, cookie), count) ((f.0, f.1), f.2) line at rest ends e
fields_again (call.StatFs handle) line at rest f ends e =
    made_again u32_row call.StatFs handle f line at rest ends e

fields_placed : (n : Procedure) → PlacedReader (fields_at n)
unfolding fields_at
fields_placed procedure.Null line at = tt
fields_placed procedure.GetAttr line at = made_placed u32_row call.GetAttr line at
fields_placed procedure.SetAttr line at =
    made_placed (both_row u32_row attr_row) (λ x. call.SetAttr x.0 x.1) line at
fields_placed procedure.Lookup line at = made_placed entry_row (λ x. call.Lookup x.0 x.1) line at
fields_placed procedure.ReadLink line at = made_placed u32_row call.ReadLink line at
fields_placed procedure.Read line at =
    made_placed (both_row numbers_row u32_row) (λ x. call.Read x.0.0 x.0.1 x.1) line at
fields_placed procedure.Write line at =
    made_placed (both_row numbers_row bytes_row) (λ x. call.Write x.0.0 x.0.1 x.1) line at
fields_placed procedure.Create line at =
    made_placed (both_row entry_row attr_row) (λ x. call.Create x.0.0 x.0.1 x.1) line at
fields_placed procedure.Remove line at = made_placed entry_row (λ x. call.Remove x.0 x.1) line at
fields_placed procedure.Rename line at =
    made_placed (both_row (both_row entry_row u32_row) name_row)
    (λ x. call.Rename x.0.0.0 x.0.0.1 x.0.1 x.1) line at
fields_placed procedure.Link line at =
    made_placed (both_row numbers_row name_row) (λ x. call.Link x.0.0 x.0.1 x.1) line at
fields_placed procedure.SymLink line at =
    made_placed (both_row (both_row entry_row name_row) attr_row)
    (λ x. call.SymLink x.0.0.0 x.0.0.1 x.0.1 x.1) line at
fields_placed procedure.MkDir line at =
    made_placed (both_row entry_row attr_row) (λ x. call.MkDir x.0.0 x.0.1 x.1) line at
fields_placed procedure.RmDir line at = made_placed entry_row (λ x. call.RmDir x.0 x.1) line at
fields_placed procedure.ReadDir line at =
    made_placed (both_row numbers_row u32_row) (λ x. call.ReadDir x.0.0 x.0.1 x.1) line at
fields_placed procedure.StatFs line at = made_placed u32_row call.StatFs line at

-- ---- a call

call_takes : (told : Bool) (line : List ℕ) (at : ℕ) (x : Call × ℕ) → call_at told line at ≡ Ok x
    → Spells line at (call_text x.0) x.1 × CallFits x.0
unfolding call_at
call_takes told line at x e =
    let p = bind_ok (named_at (asked_names told) procedure_named line at)
    (λ n. fields_at n.0 line n.1) x e in
    let n = name_takes (asked_names told) procedure_named line at p.0 p.1 in
    let word = word_at line at in
    let t = fields_take p.0.0 line p.0.1 x p.2 in
    let front = subst (λ (k : ℕ). Spells line at word k) (sym n.place) (word_spells line at) in
    let whole = Spells-then line at word p.0.1 (fields_text x.0) x.1 front t.0 in
    let named : word ≡ procedure_name (procedure_of x.0) =
    names_call word p.0.0 n.means ∙ ap procedure_name (sym t.1.1) in
    let text : word ++ fields_text x.0 ≡ call_text x.0 =
    ap (λ (l : List ℕ). l ++ fields_text x.0) named ∙ sym (call_parts x.0) in
    (subst (λ (l : List ℕ). Spells line at l x.1) text whole, t.1.0)

call_again : (told : Bool) (line : List ℕ) (at : ℕ) (c : Call) (rest : List ℕ) → CallFits c
    → EndsWord rest → drop at line ≡ call_text c ++ rest
    → call_at told line at ≡ Ok (c, at + length (call_text c))
unfolding call_at
call_again told line at c rest fits ends e =
    let n = procedure_of c in
    let name = procedure_name n in
    let fields = fields_text c in
    let whole : drop at line ≡ name ++ (fields ++ rest) =
    e ∙ ap (λ (l : List ℕ). l ++ rest) (call_parts c) ∙ append_assoc name fields rest in
    let one = name_again (asked_names told) procedure_named line at name (fields ++ rest) n
    (named_again n) (name_is_name n) (fields_end c rest ends) whole in
    let two = fields_again c line (at + length name) rest fits ends
    (drop_past line at name (fields ++ rest) whole) in
    let end : at + length name + length fields ≡ at + length (call_text c) = omega
    (arith, length-append name fields, ap length (call_parts c)) in
    ap (λ (o : Read Procedure). o >>= λ n. fields_at n.0 line n.1) one ∙ two
    ∙ ap (read_of c) end

pub call_field : (told : Bool) → IsField (call_at told) call_text CallFits
call_field told = record { takes = call_takes told; again = call_again told }

call_placed : (told : Bool) → PlacedReader (call_at told)
unfolding call_at
call_placed told line at =
    faults.bind (named_at (asked_names told) procedure_named line at) _
    (name_placed (asked_names told) procedure_named line at) (λ n. fields_placed n.0 line n.1)

-- a call behind a space
pub call_row : (told : Bool)
    → IsRow (spaced_at (call_at told)) (λ c. spaced (call_text c)) CallFits
call_row told = spaced_row (call_at told) call_text CallFits (call_field told) (call_placed told)
