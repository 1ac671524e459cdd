-- Lists of changes, and what they make of the cells.
use Rattle.std.proofs.Common.{◌≡◌, ℕ, zero, suc, ◌≤◌, Bool, true, false, ◌+◌, ◌&&◌, List, [], ◌∷◌, ◌++◌, map, fold, length, take, drop, Option, Some, refl, sym, ap, subst, ◌∙◌, arith}
use Rattle.std.specs.Bool.{if◌then◌else◌}
use Rattle.std.specs.Prelude.{All, slice_index_or}
use Rattle.std.proofs.Math.Path.{fun_ext}
use Rattle.std.proofs.lemmas.List.{take-append-le, drop-append-le, take_all, drop_all, take-append-drop}
use Rattle.harp_cells.specs.declared.cell.Cell.{Cell}
use Rattle.harp_cells.specs.declared.value.Value.{Value}
use Rattle.harp_cells.specs.Effect.{Cells, is_cell}
use Rattle.harp_store.specs.Mark.{MarkFields}
use Rattle.harp_store.specs.Disk.{Disk, Moments, reads, values_of, set_by, with_unsynced, with_mark, synced_whole, then_disk}
use Rattle.harp_store.specs.Layers.{disk_at, stored_by, IsMoment, IsPast}
use Rattle.harp_store.specs.declared.layers.Unsynced.{Unsynced}
use Rattle.harp_types.specs.declared.pick.Pick.{Pick}
use Rattle.harp_store.specs.Memory.{crashed_by, kept, left_by, without_past}
use Rattle.harp_types.specs.Picks.{is_kept}
use Rattle.harp_store.specs.declared.layers.Instant.{Instant}

-- ---- one cell

pub values_append : (c : Cell) (us vs : List Unsynced) → values_of c (us ++ vs)
    ≡ values_of c us ++ values_of c vs
unfolding values_of
values_append c [] vs = refl
values_append c (u ∷ us) vs = go (is_cell u.cell c) (values_append c us vs)
  where
    go : (b : Bool) → values_of c (us ++ vs) ≡ values_of c us ++ values_of c vs
        → (if b then u.value ∷ values_of c (us ++ vs) else values_of c (us ++ vs))
        ≡ (if b then u.value ∷ values_of c us else values_of c us) ++ values_of c vs
    go true h = ap (λ vs. u.value ∷ vs) h
    go false h = h

pub set_append : (c : Cell) (us vs : List Unsynced) (held : Option Value)
    → set_by c (us ++ vs) held ≡ set_by c vs (set_by c us held)
unfolding set_by
set_append c [] vs held = refl
set_append c (u ∷ us) vs held = set_append c us vs (if is_cell u.cell c then u.value else held)

-- the last of some values, where there is one
abbrev pub latest : Option Value → List (Option Value) → Option Value
latest held values = fold (λ _ v. v) held values

-- what the changes make of a value is the last one
pub latest_is : (c : Cell) (us : List Unsynced) (held : Option Value)
    → latest held (values_of c us) ≡ set_by c us held
unfolding values_of set_by
latest_is c [] held = refl
latest_is c (u ∷ us) held = go (is_cell u.cell c) (latest_is c us u.value) (latest_is c us held)
  where
    go : (b : Bool) → latest u.value (values_of c us) ≡ set_by c us u.value
        → latest held (values_of c us) ≡ set_by c us held
        → latest held (if b then u.value ∷ values_of c us else values_of c us)
        ≡ set_by c us (if b then u.value else held)
    go true h k = h
    go false h k = k

-- what is left by the changes that are kept is what these make
pub left_is_kept : (keeps : ℕ → Bool) (place : ℕ) (c : Cell) (us : List Unsynced)
    (held : Option Value) → left_by keeps place c us held ≡ set_by c (kept keeps place us) held
unfolding left_by kept set_by
left_is_kept keeps place c [] held = refl
left_is_kept keeps place c (u ∷ us) held = go (keeps place) (left_is_kept keeps (place + 1) c us)
  where
    go : (b : Bool) → ((h : Option Value) → left_by keeps (place + 1) c us h
        ≡ set_by c (kept keeps (place + 1) us) h)
        → left_by keeps (place + 1) c us (if b && is_cell u.cell c then u.value else held)
        ≡ set_by c (if b then u ∷ kept keeps (place + 1) us else kept keeps (place + 1) us) held
    go true rest = rest (if is_cell u.cell c then u.value else held)
    go false rest = rest held

-- ---- moments

-- what the changes up to a moment made stays
disk_stays : (base : Cells) (changes more : List Unsynced) (t : Instant)
    → IsMoment (length changes) t → disk_at base (changes ++ more) t ≡ disk_at base changes t
disk_stays base changes more t h =
    let front : take t.synced (changes ++ more)
    ≡ take t.synced changes = take-append-le t.synced changes more (omega (arith, h.0, h.1)) in
    let made : take t.made (changes ++ more)
    ≡ take t.made changes = take-append-le t.made changes more h.1 in
    rw (front, made) refl

pub all_but_first : {X : Type 0} (P : X → Type 0) (x : X) (xs : List X) → All P (x ∷ xs) → All P xs
all_but_first P x xs h = λ k d lt. h (suc k) d (omega (arith, lt))

past_stays : (base : Cells) (changes more : List Unsynced) (past : List Instant)
    → All (IsMoment (length changes)) past
    → map (disk_at base (changes ++ more)) past ≡ map (disk_at base changes) past
past_stays base changes more [] h = refl
past_stays base changes more (t ∷ past) h =
    ap (λ (d : Disk). d ∷ map (disk_at base (changes ++ more)) past)
    (disk_stays base changes more t (h 0 t (omega arith)))
    ∙ ap (λ (ds : List Disk). disk_at base changes t ∷ ds) (past_stays base changes more past
    (all_but_first (IsMoment (length changes)) t past h))

map_append : (base : Cells) (changes : List Unsynced) (past : List Instant) (t : Instant)
    → map (disk_at base changes) (past ++ t ∷ [])
    ≡ map (disk_at base changes) past ++ disk_at base changes t ∷ []
map_append base changes [] t = refl
map_append base changes (p ∷ past) t = ap (λ (ds : List Disk). disk_at base changes p ∷ ds)
    (map_append base changes past t)

-- the moment before a change
abbrev pub instant : List Unsynced → ℕ → Option MarkFields → Instant
instant changes synced mark = record { made = length changes; synced = synced; mark = mark }

its_disk : (base : Cells) (changes : List Unsynced) (synced : ℕ) (mark : Option MarkFields)
    (past : List Instant)
    → disk_at base changes (instant changes synced mark)
    ≡ (stored_by base changes synced mark past).now
its_disk base changes synced mark past = rw (take_all (length changes) changes (omega arith)) refl

past_after : (base : Cells) (changes : List Unsynced) (synced : ℕ) (mark : Option MarkFields)
    (past : List Instant)
    → map (disk_at base changes) (past ++ instant changes synced mark ∷ [])
    ≡ map (disk_at base changes) past ++ (stored_by base changes synced mark past).now ∷ []
past_after base changes synced mark past =
    map_append base changes past (instant changes synced mark)
    ∙ ap (λ (d : Disk). map (disk_at base changes) past ++ d ∷ [])
    (its_disk base changes synced mark past)

later_moment : (n m : ℕ) (t : Instant) → n ≤ m → IsMoment n t → IsMoment m t
later_moment n m t le h = (h.0, omega (arith, h.1, le))

pub all_and_one : {X : Type 0} (P : X → Type 0) (xs : List X) (x : X) → All P xs → P x
    → All P (xs ++ x ∷ [])
all_and_one P [] x h k zero d lt = k
all_and_one P [] x h k (suc n) d lt = absurd (omega (arith, lt))
all_and_one P (y ∷ xs) x h k zero d lt = h 0 d (omega arith)
all_and_one P (y ∷ xs) x h k (suc n) d lt = all_and_one P xs x (all_but_first P y xs h) k n d
    (omega (arith, lt))

all_later : (n m : ℕ) (past : List Instant) → n ≤ m → All (IsMoment n) past → All (IsMoment m) past
all_later n m past le h = λ k d lt. later_moment n m (slice_index_or past k d) le (h k d lt)

-- the earlier moments after one more change
pub past_grown : (changes : List Unsynced) (made synced : ℕ) (mark : Option MarkFields)
    (past : List Instant) → length changes ≤ made → IsPast (length changes) synced past
    → IsPast made synced (past ++ instant changes synced mark ∷ [])
past_grown changes made synced mark past le h = record {
  within = omega (arith, h.within, le);
  moments = all_and_one (IsMoment made) past (instant changes synced mark) (all_later
      (length changes) made past le h.moments) (h.within, le);
}

abbrev the_stored : List Disk → Cells → List Unsynced → Option MarkFields → Moments
the_stored p f u m = record { past = p; now = record { synced = f; unsynced = u; mark = m } }

same_stored : (p p' : List Disk) (f f' : Cells) (u u' : List Unsynced) (m : Option MarkFields)
    → p ≡ p' → f ≡ f' → u ≡ u'
    → (the_stored p f u m) ≡ the_stored p' f' u' m
same_stored p p' f f' u u' m e g h =
    ap (λ (x : List Disk). the_stored x f u m) e ∙ ap (λ (x : Cells). the_stored p' x u m) g
    ∙ ap (λ (x : List Unsynced). the_stored p' f' x m) h

-- what is stored after changes
pub stored_changed : (base new : Cells) (changes more : List Unsynced) (synced : ℕ)
    (mark : Option MarkFields) (past : List Instant) → ((c : Cell) → new c ≡ base c)
    → IsPast (length changes) synced past
    → stored_by new (changes ++ more) synced mark (past ++ instant changes synced mark ∷ [])
    ≡ then_disk (with_unsynced more (stored_by base changes synced mark past).now)
    (stored_by base changes synced mark past)
stored_changed base new changes more synced mark past same times =
    let is : new ≡ base = fun_ext same in
    subst (λ (f : Cells). stored_by f (changes ++ more) synced mark
    (past ++ instant changes synced mark ∷ [])
    ≡ then_disk (with_unsynced more (stored_by base changes synced mark past).now)
    (stored_by base changes synced mark past)) (sym is)
    (same_stored (map (disk_at base (changes ++ more))
    (past ++ instant changes synced mark ∷ [])) (map (disk_at base changes) past ++
    (stored_by base changes synced mark past).now ∷ [])
    (λ c. set_by c (take synced (changes ++ more)) (base c)) (λ c. set_by c (take synced changes)
    (base c))
    (drop synced (changes ++ more)) (drop synced changes ++ more) mark
    (past_stays base changes more (past ++ instant changes synced mark ∷ []) (past_grown changes
    (length changes) synced mark past (omega arith) times).moments
    ∙ past_after base changes synced mark past)
    (fun_ext (λ c. ap (λ (us : List Unsynced). set_by c us (base c))
    (take-append-le synced changes more times.within)))
    (drop-append-le synced changes more times.within))

-- what is stored after a sync
pub stored_synced : (base : Cells) (changes : List Unsynced) (synced : ℕ)
    (mark : Option MarkFields) (past : List Instant)
    → stored_by base changes (length changes) mark (past ++ instant changes synced mark ∷ [])
    ≡ then_disk (synced_whole (stored_by base changes synced mark past).now)
    (stored_by base changes synced mark past)
unfolding reads
stored_synced base changes synced mark past =
    same_stored (map (disk_at base changes) (past ++ instant changes synced mark ∷ [])) (map
    (disk_at base changes) past ++
    (stored_by base changes synced mark past).now ∷ [])
    (λ c. set_by c (take (length changes) changes) (base c)) (λ c. set_by c (drop synced changes)
    (set_by c (take synced changes) (base c)))
    (drop (length changes) changes) [] mark
    (past_after base changes synced mark past)
    (fun_ext (λ c. ap (λ (us : List Unsynced). set_by c us (base c)) (take_all
    (length changes) changes (omega arith) ∙ sym (take-append-drop synced changes))
    ∙ set_append c (take synced changes) (drop synced changes) (base c)))
    (drop_all (length changes) changes (omega arith))

-- what is stored after the mark is written
pub stored_marked : (base : Cells) (changes : List Unsynced) (synced : ℕ)
    (mark : Option MarkFields) (new : MarkFields) (past : List Instant)
    → stored_by base changes synced (Some new) (past ++ instant changes synced mark ∷ [])
    ≡ then_disk (with_mark new (stored_by base changes synced mark past).now)
    (stored_by base changes synced mark past)
stored_marked base changes synced mark new past =
    same_stored (map (disk_at base changes) (past ++ instant changes synced mark ∷ [])) (map
    (disk_at base changes) past ++
    (stored_by base changes synced mark past).now ∷ [])
    (λ c. set_by c (take synced changes) (base c)) (λ c. set_by c (take synced changes) (base c))
    (drop synced changes) (drop synced changes) (Some new)
    (past_after base changes synced mark past) refl refl

-- what is stored where every value came below
pub settled_stored : (base new : Cells) (changes : List Unsynced) (synced : ℕ)
    (mark : Option MarkFields) (past : List Instant)
    → ((c : Cell) → new c ≡ set_by c changes (base c)) → synced ≡ length changes
    → stored_by new [] 0 mark [] ≡ without_past (stored_by base changes synced mark past)
unfolding set_by
settled_stored base new changes synced mark past h e =
    same_stored [] [] new (λ c. set_by c (take synced changes) (base c)) []
    (drop synced changes) mark refl
    (fun_ext (λ c. h c ∙ ap (λ (us : List Unsynced). set_by c us (base c)) (sym
    (take_all synced changes (omega (arith, e))))))
    (sym (drop_all synced changes (omega (arith, e))))

-- what is stored after a crash
pub crashed_stored : (base new : Cells) (changes : List Unsynced) (synced : ℕ)
    (mark : Option MarkFields) (past : List Instant) (pick : Pick)
    → ((c : Cell) → new c ≡ left_by (is_kept pick) 0 c (drop synced changes) (set_by c
    (take synced changes) (base c)))
    → stored_by new [] 0 mark []
    ≡ record { past = []; now = crashed_by pick (stored_by base changes synced mark past).now }
unfolding set_by reads
crashed_stored base new changes synced mark past pick h =
    ap (λ (f : Cells). the_stored [] f [] mark) (fun_ext (λ c. h c ∙ left_is_kept
    (is_kept pick) 0 c (drop synced changes) (set_by c (take synced changes) (base c))))
