-- One turn of reading the entries of a page.
use Rattle.std.proofs.Common.{◌≡◌, ℕ, zero, suc, ◌+◌, ◌-◌, ◌<◌, Bool, true, false, List, [], ◌∷◌, ◌++◌, Result, Ok, Err, refl, sym, ap, subst, ◌∙◌, append_assoc, arith}
use Rattle.std.specs.Prelude.{IsErr, IsErrAnd}
use Rattle.std.proofs.lemmas.List.{append-nil}
use Rattle.harp_types.specs.declared.reply.DirEntry.{DirEntry}
use Rattle.schedule_text.specs.declared.fault.TextFault.{TextFault}
use Rattle.schedule_text.specs.declared.fault.TextFault.TheVariants.{Grammar, NoMemory}
use Rattle.schedule_text.specs.Fields.{Read, ◌>>=◌, Fails, Gives, spaced_at}
use Rattle.schedule_text.proofs.Places.{read_of}
use Rattle.schedule_text.specs.Reading.{is_digit_at}
use Rattle.trace_text.specs.Replies.{entry_at, entries_at}
use Rattle.trace_text.proofs.EntryLaws.{entries_on}

-- entries, and then what is read of the rest
abbrev pub after_entries : List DirEntry → Read (List DirEntry) → Read (List DirEntry)
after_entries done (Ok x) = Ok (done ++ x.0, x.1)
after_entries done (Err e) = Err e

none_stands : (room : ℕ) (line : List ℕ) (at : ℕ) → is_digit_at line (at + 1) ≡ false
    → entries_at room line at ≡ read_of [] at
unfolding entries_at
none_stands zero line at none = refl
none_stands (suc room) line at none = ap (entries_on room line at) none

no_room : (room : ℕ) (line : List ℕ) (at : ℕ) → room ≡ 0 → entries_at room line at ≡ read_of [] at
unfolding entries_at
no_room room line at e = ap (λ (n : ℕ). entries_at n line at) {x = room} {y = zero} e

all_read : (done : List DirEntry) (at : ℕ) (rest all : Read (List DirEntry))
    → all ≡ after_entries done rest → rest ≡ read_of [] at → all ≡ read_of done at
all_read done at rest all is none =
    is ∙ ap (after_entries done) none ∙ ap (λ (l : List DirEntry). read_of l at) (append-nil done)

-- no entry is left
pub entries_done : (room : ℕ) (done : List DirEntry) (line : List ℕ) (at : ℕ)
    (all : Read (List DirEntry)) → all ≡ after_entries done (entries_at room line at)
    → is_digit_at line (at + 1) ≡ false → all ≡ read_of done at
entries_done room done line at all is none =
    all_read done at (entries_at room line at) all is (none_stands room line at none)

-- no room is left
pub entries_full : (room : ℕ) (done : List DirEntry) (line : List ℕ) (at : ℕ)
    (all : Read (List DirEntry)) → all ≡ after_entries done (entries_at room line at)
    → room ≡ 0 → all ≡ read_of done at
entries_full room done line at all is e =
    all_read done at (entries_at room line at) all is (no_room room line at e)

after_one : (done : List DirEntry) (x : DirEntry) (r : Read (List DirEntry))
    → after_entries done (r >>= λ rest. Ok (x ∷ rest.0, rest.1)) ≡ after_entries (done ++ x ∷ []) r
after_one done x (Ok y) =
    ap (λ (l : List DirEntry). read_of l y.1) (sym (append_assoc done (x ∷ []) y.0))
after_one done x (Err f) = refl

-- one more entry
pub entries_more : (room : ℕ) (done : List DirEntry) (line : List ℕ) (at : ℕ) (x : DirEntry)
    (next : ℕ) → 0 < room → is_digit_at line (at + 1) ≡ true
    → spaced_at entry_at line at ≡ Ok (x, next)
    → after_entries done (entries_at room line at)
    ≡ after_entries (done ++ x ∷ []) (entries_at (room - 1) line next)
unfolding entries_at
entries_more zero done line at x next lt digit is = absurd (omega (arith, lt))
entries_more (suc room) done line at x next lt digit is =
    let one : suc room - 1 ≡ room = omega arith in
    ap (λ (b : Bool). after_entries done (entries_on room line at b)) digit
    ∙ ap (λ (o : Read DirEntry). after_entries done (o >>= λ e. entries_at room line e.1
    >>= λ rest. Ok (e.0 ∷ rest.0, rest.1))) is
    ∙ after_one done x (entries_at room line next)
    ∙ ap (λ (n : ℕ). after_entries (done ++ x ∷ []) (entries_at n line next)) (sym one)

entries_fail : (room : ℕ) (done : List DirEntry) (line : List ℕ) (at : ℕ) (f : TextFault)
    → 0 < room → is_digit_at line (at + 1) ≡ true → spaced_at entry_at line at ≡ Err f
    → after_entries done (entries_at room line at) ≡ Err f
unfolding entries_at
entries_fail zero done line at f lt digit is = absurd (omega (arith, lt))
entries_fail (suc room) done line at f lt digit is =
    ap (λ (b : Bool). after_entries done (entries_on room line at b)) digit
    ∙ ap (λ (o : Read DirEntry). after_entries done (o >>= λ e. entries_at room line e.1
    >>= λ rest. Ok (e.0 ∷ rest.0, rest.1))) is

-- a fault of the next entry is the fault of all
pub entries_fault : (f : TextFault) (room : ℕ) (done : List DirEntry) (line : List ℕ) (at : ℕ)
    (all : Read (List DirEntry)) → all ≡ after_entries done (entries_at room line at)
    → 0 < room → is_digit_at line (at + 1) ≡ true → Fails f (spaced_at entry_at line at)
    → Fails f all
entries_fault NoMemory room done line at all is lt digit fails = tt
entries_fault (Grammar n) room done line at all is lt digit fails =
    is ∙ entries_fail room done line at (Grammar n) lt digit fails

-- a fault that `?` hands on
pub handed_on : {X Y : Type 0} (view : X → Y) (r : Result X TextFault) (e : TextFault)
    (read : Result Y TextFault) → IsErr r → IsErrAnd r (λ f. f ≡ e) → Fails e read
    → Gives view r read
handed_on view (Ok x) e read is same fails = absurd cc
handed_on view (Err f) e read is same fails =
    subst (λ (g : TextFault). Fails g read) (sym same) fails
