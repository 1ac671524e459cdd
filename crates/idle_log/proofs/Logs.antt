-- Each call of a log is a move of the machine.
use Rattle.std.proofs.Common.{◌≡◌, ℕ, ◌+◌, ◌-◌, ◌≤◌, ◌==◌, Bool, true, false, List, [], ◌∷◌, ◌++◌, take, drop, length, max, min, nat_le, None, Some, refl, ap, sym, ◌∙◌, inl, inr, arith, if◌then◌else◌}
use Rattle.std.specs.Prelude.{◌&&◌, map, nat_lt, option_map}
use Rattle.std.proofs.lemmas.List.{drop-append-le, drop-map, length-append, length-drop, length-map, map-append, take-map}
use Rattle.event_record.specs.Record.{entry_of}
use Rattle.event_record.specs.declared.record.RecordFields.{RecordFields}
use Rattle.file_tree.specs.Book.{Entry}
use Rattle.group_rules.specs.Effects.{NewLog, heeding, opening}
use Rattle.group_rules.specs.Limits.{by_held, give_bytes, is_log}
use Rattle.group_rules.specs.Places.{all_of}
use Rattle.group_rules.specs.Serving.{asked_for, front as filled, one_or_more}
use Rattle.group_rules.specs.State.{Log, Server}
use Rattle.volatile_log.specs.Log.{IsLog, LogValue, dropped_to, top, with_record}
use Rattle.witness.specs.Serving.{asked_for as asked, front, one_or_more as at_least_one}
use Rattle.idle_log.specs.LogLaws.{AdoptsAtWitness, AdoptsHeld, AdoptsLost, Commits, Drops, Freezes, Heeds, HeedsBeats, Opens, Puts, Reports, Resumes, Serves, Sized, live, raised_log, with_log}

log : ℕ → ℕ → ℕ → ℕ → List Entry → NewLog Entry
log base lb ap cp items = record { base = base; lb = lb; ap = ap; cp = cp; items = items }

-- five equal parts are an equal log
same_log : (base : ℕ) (lb lb' ap ap' cp cp' : ℕ) (items items' : List Entry) → lb ≡ lb'
    → ap ≡ ap' → cp ≡ cp' → items ≡ items'
    → log base lb ap cp items ≡ log base lb' ap' cp' items'
same_log base lb lb' a a' cp cp' items items' l p c i =
    ap (λ x. log base x a cp items) l ∙ ap (λ x. log base lb' x cp items) p
    ∙ ap (λ x. log base lb' a' x items) c ∙ ap (log base lb' a' cp') i

pub resumes : Resumes
unfolding log
resumes q s l plan h source from (inl storer) =
    let low = storer.1 in
    rw (source, storer.0) (same_log plan.base (max l.lb plan.base) l.lb (max l.ap plan.base) l.ap
    (max (max l.cp plan.base) plan.cp) (max l.cp (max plan.base plan.cp)) _ _
    (omega (arith, low)) (omega (arith, low, h.lb)) (omega arith) (sym (drop-map entry_of
    (plan.base - l.base) l.records)))
resumes q s l plan h source from (inr witness) =
    let low = witness.1 in
    let applied = witness.2 in
    rw (source, witness.0) (same_log plan.base (max l.lb plan.base) plan.base
    (max l.ap plan.base) plan.base (max (max l.cp plan.base) plan.cp) (max l.cp
    (max plan.base plan.cp)) _ _
    (omega (arith, low, from)) (omega (arith, applied, from)) (omega arith) (sym
    (drop-map entry_of (plan.base - l.base) l.records)))

pub adopts_held : AdoptsHeld
unfolding log
adopts_held q s l plan staged h other storer low =
    let kept = take (l.cp - l.base) l.records in
    rw (other, storer) (same_log plan.base l.lb l.lb l.ap l.ap (max l.cp plan.cp) (max l.cp
    (max plan.base plan.cp)) _ _ refl refl (omega (arith, low, h.lb, h.ap))
    (sym (drop-map entry_of (plan.base - l.base) (kept ++ staged))
    ∙ ap (drop (plan.base - l.base)) (map-append entry_of kept staged
    ∙ ap (λ xs. xs ++ map entry_of staged) (sym (take-map entry_of
    (l.cp - l.base) l.records)))))

pub adopts_lost : AdoptsLost
unfolding log
adopts_lost q s plan staged other storer low =
    rw (other, storer) (same_log plan.base s.lb s.lb s.lb s.lb (max s.lb plan.cp) (max s.lb
    (max plan.base plan.cp)) _ _ refl refl (omega (arith, low)) refl)

-- the witness keeps no record where it isn't the source
none_kept : (b : Bool) (xs ys : List Entry) → ys ≡ (if (if b then false else false) then xs else ys)
none_kept true xs ys = refl
none_kept false xs ys = refl

pub adopts_at_witness : AdoptsAtWitness
unfolding log
adopts_at_witness q s plan staged other p2 =
    rw (other, p2) (same_log plan.base plan.base plan.base plan.base plan.base (max plan.base
    (max (by_held s.held s.cp s.lb) plan.cp)) (max (by_held s.held s.cp s.lb)
    (max plan.base plan.cp)) _ _
    refl refl (omega arith) (none_kept (is_log s.held) _ (map entry_of staged)))

pub puts : Puts
puts q clock s l r = ap (λ (items : List Entry). record (with_log s l) { items = items }) (sym
    (map-append entry_of l.records (r ∷ [])))

pub commits : Commits
commits q clock s l n = (refl, refl, refl)

pub drops : Drops
drops q clock s l n = ap (λ (items : List Entry). record
    (with_log s l) { base = n; items = items }) (drop-map entry_of (n - l.base) l.records)

pub opens : Opens
opens q clock s l lb =
    ap (λ n. record (opening (with_log s l) s.plan.start lb) { cp = l.base + n })
    (length-map l.records entry_of)

pub freezes : Freezes
freezes s l v duty = refl

pub reports : Reports
reports s l = ap (λ n. record {
  held = Log;
  accepted = s.accepted;
  base = l.base;
  lb = l.lb;
  cp = l.cp;
  top = l.base + n;
  horizon = s.horizon;
}) (length-map l.records entry_of)

-- ---- heeding

-- without a record
drops_at : (clock : ℕ) (s : Server Entry) (l : LogValue) (base cp : ℕ) → IsLog l → base ≤ l.lb
    → heeding (with_log s l) (map entry_of l.records) cp base clock
    ≡ with_log (live clock s) (raised_log (dropped_to l (max l.base base)) cp)
drops_at clock s l base cp h low =
    let n = max l.base base in
    let es = map entry_of l.records in
    let k : base - l.base ≡ n - l.base = omega arith in
    let items : drop (base - l.base) es ≡ map entry_of (drop (n - l.base) l.records) =
    drop-map entry_of (base - l.base) l.records ∙ ap (λ j. map entry_of (drop j l.records)) k in
    let each = length-map l.records entry_of in
    let gone = length-drop (n - l.base) l.records in
    let cps : max l.cp (min cp (l.base + length es))
    ≡ max l.cp (min cp (n + length (drop (n - l.base) l.records))) =
    omega (arith, each, gone, low, h.lb, h.ap, h.cp) in
    ap (λ xs. record (live clock (with_log s l)) {
      base = n;
      items = xs;
      cp = max l.cp (min cp
          (l.base + length es));
    }) items
    ∙ ap (λ c. record (live clock (with_log s l)) {
      base = n;
      items = map entry_of (drop
          (n - l.base) l.records);
      cp = c;
    }) cps

heeds_at : (b : Bool) (clock : ℕ) (s : Server Entry) (l : LogValue) (base cp : ℕ) (r : RecordFields)
    → IsLog l → base ≤ l.lb
    → heeding (with_log s l)
    (if b then map entry_of l.records ++ entry_of r ∷ [] else map entry_of l.records) cp base
    clock
    ≡ with_log (live clock s) (raised_log (if b then with_record (dropped_to l (max l.base base)) r
    else dropped_to l (max l.base base)) cp)
heeds_at true clock s l base cp r h low =
    let n = max l.base base in
    let es = map entry_of l.records in
    let k : base - l.base ≡ n - l.base = omega arith in
    let within : base - l.base ≤ length l.records = omega (arith, low, h.lb, h.ap, h.cp) in
    let items : drop (base - l.base) (es ++ entry_of r ∷ [])
    ≡ map entry_of (drop (n - l.base) l.records ++ r ∷ []) =
    ap (drop (base - l.base)) (sym (map-append entry_of l.records (r ∷ [])))
    ∙ drop-map entry_of (base - l.base) (l.records ++ r ∷ [])
    ∙ ap (map entry_of) (drop-append-le (base - l.base) l.records (r ∷ []) within
    ∙ ap (λ j. drop j l.records ++ r ∷ []) k) in
    let all = length-append es (entry_of r ∷ []) in
    let each = length-map l.records entry_of in
    let left = length-append (drop (n - l.base) l.records) (r ∷ []) in
    let gone = length-drop (n - l.base) l.records in
    let cps : max l.cp (min cp (l.base + length (es ++ entry_of r ∷ [])))
    ≡ max l.cp (min cp (n + length (drop (n - l.base) l.records ++ r ∷ []))) =
    omega (arith, all, each, left, gone, low, h.lb, h.ap, h.cp) in
    ap (λ xs. record (live clock (with_log s l)) {
      base = n;
      items = xs;
      cp = max l.cp (min cp
          (l.base + length (es ++ entry_of r ∷ [])));
    }) items
    ∙ ap (λ c. record (live clock (with_log s l)) {
      base = n;
      items = map entry_of (drop
          (n - l.base) l.records ++ r ∷ []);
      cp = c;
    }) cps
heeds_at false clock s l base cp r h low = drops_at clock s l base cp h low

pub heeds : Heeds
heeds q clock s l base cp r h low =
    let each = length-map l.records entry_of in
    let gone = length-drop (max l.base base - l.base) l.records in
    let tops : l.base + length (map entry_of l.records) ≡ top (dropped_to l (max l.base base)) =
    omega (arith, each, gone, low, h.lb, h.ap, h.cp) in
    ap (λ t. heeding (with_log s l)
    (if r.index == t + 1 then map entry_of l.records ++ entry_of r ∷ []
    else map entry_of l.records) cp base clock) tops
    ∙ heeds_at (r.index == top (dropped_to l (max l.base base)) + 1) clock s l base cp r h low

pub heeds_beats : HeedsBeats
heeds_beats q clock s l base cp h low = drops_at clock s l base cp h low

-- ---- serving

map_if : (b : Bool) (xs : List RecordFields) (ys : List Entry) → map entry_of xs ≡ ys
    → map entry_of (if b then xs else []) ≡ (if b then ys else [])
map_if true xs ys h = h
map_if false xs ys h = refl

fronts : (size : List Entry → Entry → ℕ) (each : RecordFields
    → ℕ) (before : List Entry) (used : ℕ) (rs : List RecordFields) → Sized size each before rs
    → map entry_of (front each used rs) ≡ filled size before used (map entry_of rs)
unfolding give_bytes
fronts size each before used [] h = refl
fronts size each before used (r ∷ rs) h =
    map_if (nat_le (used + each r) 48000) (r ∷ front each (used + each r) rs)
    (entry_of r ∷ filled size (before ++ entry_of r ∷ []) (used + each r) (map entry_of rs))
    (ap (λ es. entry_of r ∷ es) (fronts size each (before ++ entry_of r ∷ [])
    (used + each r) rs h.1))
    ∙ ap (λ n. if nat_le (used + n) 48000 then entry_of r ∷ filled size
    (before ++ entry_of r ∷ []) (used + n) (map entry_of rs) else []) (sym h.0)

more : (size : List Entry → Entry → ℕ) (each : RecordFields
    → ℕ) (before : List Entry) (rs : List RecordFields) → Sized size each before rs
    → map entry_of (at_least_one each rs) ≡ one_or_more size before (map entry_of rs)
more size each before [] h = refl
more size each before (r ∷ rs) h =
    ap (λ es. entry_of r ∷ es) (fronts size each (before ++ entry_of r ∷ []) (each r) rs h.1
    ∙ ap (λ n. filled size (before ++ entry_of r ∷ []) n (map entry_of rs)) (sym h.0))

-- the test of the log is that of the machine
tested : (a b : Bool) (rs : List RecordFields) (es : List Entry) → map entry_of rs ≡ es
    → option_map (map entry_of) (if a && b then Some rs else None)
    ≡ (if all_of (a ∷ b ∷ []) then Some es else None)
unfolding all_of
tested true true rs es h = ap Some h
tested true false rs es h = refl
tested false b rs es h = refl

pub serves : Serves
serves size each list s l index last within h =
    let before = take (index - 1) list in
    let all : min last (top l) ≡ last = omega (arith, within) in
    ap (λ n. option_map (map entry_of) (if nat_lt l.base index && nat_le index n
    then Some (at_least_one each (asked l index n)) else None)) all
    ∙ tested (nat_lt l.base index) (nat_le index last) (at_least_one each (asked l index last))
    (one_or_more size before (asked_for (with_log s l) index last))
    (more size each before (asked l index last) h
    ∙ ap (one_or_more size before) (sym (take-map entry_of (last - (index - 1)) (drop
    (index - 1 - l.base) l.records))
    ∙ ap (take (last - (index - 1))) (sym (drop-map entry_of (index - 1 - l.base) l.records))))
