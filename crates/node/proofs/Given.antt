-- The records of a Give, at a storer that pulls.
use Rattle.std.proofs.Common.{◌≡◌, ℕ, ◌+◌, ◌-◌, ◌<◌, ◌≤◌, ◌==◌, arith, Bool, true, false, List, [], ◌∷◌, ◌++◌, length, refl, ap, sym, ◌∙◌, subst, if◌then◌else◌}
use Rattle.std.specs.Prelude.{map, nat_le}
use Rattle.std.proofs.lemmas.Bool.{eqb-true, ne_eqb}
use Rattle.std.proofs.lemmas.List.{length-append, length-map, map-append}
use Rattle.event_record.specs.Record.{entry_of}
use Rattle.event_record.specs.declared.record.RecordFields.{RecordFields}
use Rattle.file_tree.specs.Book.{Entry}
use Rattle.group_rules.proofs.Tests.{all_true, eq_is, if_is, if_not, is_le}
use Rattle.group_rules.specs.Form.{accept_moves, on_give, pull_tests}
use Rattle.group_rules.specs.Limits.{is_pulls}
use Rattle.group_rules.specs.Moves.{Move, Sending, Staging}
use Rattle.group_rules.specs.Names.{number_of_view, place_of}
use Rattle.group_rules.specs.Places.{Place, all_of}
use Rattle.group_rules.specs.State.{Fetch, Plan, Server}
use Rattle.harp_types.specs.declared.server.ServerId.{ServerId}
use Rattle.harp_store.specs.Mark.{MarkFields}
use Rattle.idle_log.specs.Kept.{plan_of}
use Rattle.idle_log.specs.Pulls.{IsFor}
use Rattle.idle_log.specs.declared.form.Form.{Form}
use Rattle.idle_log.specs.declared.kept.Kept.{Kept}
use Rattle.node.proofs.Calls.{mute}
use Rattle.node.proofs.Saying.{makes_so, unsaid}
use Rattle.node.specs.Forming.{joined_with, pulling_with}
use Rattle.node.specs.Node.{NodeValue, server, value}
use Rattle.node.specs.State.{CollectsStill, Fits, HearsOthers, IsKept, IsPulling}
use Rattle.node.specs.declared.pull.Pull.{Pull}
use Rattle.node.specs.declared.state.Joining.{Joining}
use Rattle.node.specs.declared.state.State.{State}
use Rattle.node.specs.declared.state.State.TheVariants as state
use Rattle.node.specs.declared.state.Task.{Task}
use Rattle.promise.specs.Promise.{HorizonValue}
use Rattle.node_outputs.proofs.Makes.{makes_then}
use Rattle.node_outputs.specs.Makes.{Makes}
use Rattle.node_outputs.specs.Said.{said}
use Rattle.node_outputs.specs.declared.outputs.Outputs.{Outputs}
use Rattle.volatile_log.specs.Log.{StagedValue, next}

-- ---- which moves

third_fails : (a b c : Bool) (ms : List (Move Entry)) → c ≡ false
    → (if all_of (a ∷ b ∷ c ∷ []) then ms else []) ≡ []
unfolding all_of
third_fails true true true ms h = cc
third_fails true true false ms h = refl
third_fails true false c ms h = refl
third_fails false b c ms h = refl

pub gives_unwanted : (q : Place) (s : Server Entry) (v index : ℕ) (items : List Entry)
    → (index == s.wanted_from + length s.staged + 1) ≡ false → on_give q s v index items ≡ []
gives_unwanted q s v index items h =
    third_fails (is_pulls s.mode) (v == s.promised) (index == s.wanted_from + length s.staged + 1)
    _ h

tested : (q : Place) (s : Server Entry) (v index : ℕ) (items : List Entry)
    → is_pulls s.mode ≡ true → (v == s.promised) ≡ true
    → (index == s.wanted_from + length s.staged + 1) ≡ true
    → all_of (pull_tests s v index items) ≡ true
tested q s v index items mode view next =
    all_true (pull_tests s v index items) (mode, (view, (next, tt)))

-- the records, and a Fetch of the next one
abbrev pub stages : Server Entry → List Entry → List (Move Entry)
stages s all = Staging all
    ∷ Sending s.plan.source (Fetch s.promised (s.wanted_from + length all + 1)) ∷ []

pub gives_all : (q : Place) (s : Server Entry) (v index : ℕ) (items : List Entry)
    → is_pulls s.mode ≡ true → (v == s.promised) ≡ true
    → (index == s.wanted_from + length s.staged + 1) ≡ true
    → (s.wanted_from + length (s.staged ++ items) == s.plan.start) ≡ true
    → on_give q s v index items ≡ accept_moves q s s.plan (s.staged ++ items)
gives_all q s v index items mode view next all =
    if_is (all_of (pull_tests s v index items)) _ [] (tested q s v index items mode view next)
    ∙ if_is (s.wanted_from + length (s.staged ++ items) == s.plan.start)
    (accept_moves q s s.plan (s.staged ++ items)) _ all

pub gives_part : (q : Place) (s : Server Entry) (v index : ℕ) (items : List Entry)
    → is_pulls s.mode ≡ true → (v == s.promised) ≡ true
    → (index == s.wanted_from + length s.staged + 1) ≡ true
    → (s.wanted_from + length (s.staged ++ items) == s.plan.start) ≡ false
    → on_give q s v index items ≡ stages s (s.staged ++ items)
gives_part q s v index items mode view next part =
    if_is (all_of (pull_tests s v index items)) _ [] (tested q s v index items mode view next)
    ∙ if_not (s.wanted_from + length (s.staged ++ items) == s.plan.start)
    (accept_moves q s s.plan (s.staged ++ items)) _ part

pub staging : (q : Place) (clock : ℕ) (s new : Server Entry) (all : List Entry) (index : ℕ)
    (before after : Outputs) → index ≡ s.wanted_from + length all + 1
    → new ≡ record s { staged = all }
    → Makes q clock (Sending s.plan.source (Fetch s.promised index) ∷ []) [] new new before after
    → Makes q clock (stages s all) [] s new before after
staging q clock s new all index before after is made sends =
    let first : Makes q clock (Staging all ∷ []) [] s new before before =
    record { state = made; said = unsaid (said before) } in
    let second = subst (λ (i : ℕ). Makes q clock
    (Sending s.plan.source (Fetch s.promised i) ∷ []) [] new new before after) is sends in
    makes_then q clock (Staging all ∷ [])
    (Sending s.plan.source (Fetch s.promised (s.wanted_from + length all + 1)) ∷ []) [] [] s new
    new before before after first second
    (mute (Sending s.plan.source (Fetch s.promised (s.wanted_from + length all + 1)) ∷ [])
    (tt, tt))

-- ---- the staged records in numbers

-- the next index, as the machine counts
pub next_is : (staged : StagedValue) → 1 ≤ staged.first
    → staged.first - 1 + length (map entry_of staged.records) + 1 ≡ next staged
next_is staged some = omega (arith, some, length-map staged.records entry_of)

pub is_next : (staged : StagedValue) (index : ℕ) (b : Bool) → 1 ≤ staged.first
    → b ≡ (index == next staged)
    → (index == staged.first - 1 + length (map entry_of staged.records) + 1) ≡ b
is_next staged index b some is = ap (λ n. index == n) (next_is staged some) ∙ sym is

-- how many records there are with these
all_of_them : (staged : StagedValue) (items : List RecordFields)
    → length (map entry_of staged.records ++ map entry_of items)
    ≡ length staged.records + length items
all_of_them staged items = length-append (map entry_of staged.records) (map entry_of items)
    ∙ (let a = length-map staged.records entry_of in let b = length-map items entry_of in
    omega (arith, a, b))

pub is_whole : (staged : StagedValue) (items : List RecordFields) (start : ℕ) → 1 ≤ staged.first
    → next staged + length items ≤ start + 1
    → start < staged.first + length (staged.records ++ items)
    → (staged.first - 1 + length (map entry_of staged.records ++ map entry_of items) == start)
    ≡ true
is_whole staged items start some within full =
    eq_is _ _ (omega (
      arith,
      some,
      within,
      full,
      all_of_them staged items,
      length-append staged.records items,
    ))

pub is_part : (staged : StagedValue) (items : List RecordFields) (start : ℕ) → 1 ≤ staged.first
    → (start < staged.first + length (staged.records ++ items) → ⊥)
    → (staged.first - 1 + length (map entry_of staged.records ++ map entry_of items) == start)
    ≡ false
is_part staged items start some part =
    ne_eqb _ _ (λ is. omega (
      arith,
      is,
      some,
      part,
      all_of_them staged items,
      length-append staged.records items,
    ))

-- ---- at a server that pulls

-- the moves of accepting are those of the server that joined
pub accepts_alike : (q : Place) (clock : ℕ) (s new : Server Entry) (pull : Pull)
    (items : List Entry) (ms : List (Move Entry)) (before after : Outputs)
    → let plan = plan_of pull.form in let j = joined_with s pull.kept pull.joining in
    ms ≡ accept_moves q j plan items → Makes q clock (accept_moves q j plan items) [] j new
    before after
    → Makes q clock ms [] (pulling_with s pull) new before after
accepts_alike q clock s new pull items ms before after is made =
    makes_so q clock ms (accept_moves q (pulling_with s pull) (plan_of pull.form) items)
    (pulling_with s pull) new before after is (record { state = made.state; said = made.said })

pub given_none : (q : Place) (s : Server Entry) (pull : Pull) (first : ℕ) (items : List Entry)
    → 1 ≤ pull.staged.first → (first == next pull.staged) ≡ false
    → on_give q (pulling_with s pull) s.promised first items ≡ []
given_none q s pull first items some other =
    gives_unwanted q (pulling_with s pull) s.promised first items
    (is_next pull.staged first (first == next pull.staged) some refl ∙ other)

pub given_all : (q : Place) (s : Server Entry) (pull : Pull) (first : ℕ)
    (items : List RecordFields) → 1 ≤ pull.staged.first → (first == next pull.staged) ≡ true
    → next pull.staged + length items ≤ pull.form.start + 1
    → pull.form.start < pull.staged.first + length (pull.staged.records ++ items)
    → on_give q (pulling_with s pull) s.promised first (map entry_of items)
    ≡ accept_moves q (joined_with s pull.kept pull.joining) (plan_of pull.form)
    (map entry_of (pull.staged.records ++ items))
given_all q s pull first items some is within full =
    gives_all q (pulling_with s pull) s.promised first (map entry_of items) refl
    (eq_is s.promised s.promised refl)
    (is_next pull.staged first (first == next pull.staged) some refl ∙ is)
    (is_whole pull.staged items pull.form.start some within full)
    ∙ ap (accept_moves q (joined_with s pull.kept pull.joining) (plan_of pull.form))
    (sym (map-append entry_of pull.staged.records items))

pub given_part : (q : Place) (s : Server Entry) (pull : Pull) (first : ℕ)
    (items : List RecordFields) → 1 ≤ pull.staged.first → (first == next pull.staged) ≡ true
    → (pull.form.start < pull.staged.first + length (pull.staged.records ++ items) → ⊥)
    → on_give q (pulling_with s pull) s.promised first (map entry_of items)
    ≡ stages (pulling_with s pull) (map entry_of (pull.staged.records ++ items))
given_part q s pull first items some is part =
    gives_part q (pulling_with s pull) s.promised first (map entry_of items) refl
    (eq_is s.promised s.promised refl)
    (is_next pull.staged first (first == next pull.staged) some refl ∙ is)
    (is_part pull.staged items pull.form.start some part)
    ∙ ap (stages (pulling_with s pull)) (sym (map-append entry_of pull.staged.records items))

-- what a Give left of the list
pub staged_so : (taken : Bool) (old : StagedValue) (items : List RecordFields) (new : StagedValue)
    → new ≡ (if taken then record old { records = old.records ++ items } else old)
    → taken ≡ true → new ≡ record old { records = old.records ++ items }
staged_so true old items new is some_is = is
staged_so false old items new is some_is = cc

pub none_staged : (taken : Bool) (old : StagedValue) (items : List RecordFields)
    (new : StagedValue)
    → new ≡ (if taken then record old { records = old.records ++ items } else old)
    → taken ≡ false → new ≡ old
none_staged true old items new is none_is = cc
none_staged false old items new is none_is = is

-- a server whose list is the same pulls as before
pub pulled_so : (me : ServerId) (mark : MarkFields) (horizon : HorizonValue) (served : ℕ)
    (duty : Task) (before : State) (n : NodeValue) (pull : Pull) (staged : StagedValue)
    (items : List Entry) → value me mark horizon served duty before ≡ n
    → IsKept n.me n.mark pull.kept → staged ≡ pull.staged
    → server (value me mark horizon served duty
    (state.Pulls pull.kept pull.joining pull.form staged)) items
    ≡ pulling_with (server n items) pull
pulled_so me mark horizon served duty before n pull staged items is h same =
    ap (λ (t : StagedValue). server (value me mark horizon served duty
    (state.Pulls pull.kept pull.joining pull.form t)) items) same
    ∙ subst (λ (n : NodeValue). IsKept n.me n.mark pull.kept
    → server (value me mark horizon served duty
    (state.Pulls pull.kept pull.joining pull.form pull.staged)) items
    ≡ pulling_with (server n items) pull) is (λ k. rw k.lb refl) h

-- the list after a Give, in numbers
pub staged_in : (old : StagedValue) (items : List RecordFields) (new : StagedValue)
    → 1 ≤ old.first → new ≡ record old { records = old.records ++ items }
    → next new ≡ old.first - 1 + length (map entry_of new.records) + 1
staged_in old items new some is =
    let first : new.first ≡ old.first = ap (λ (t : StagedValue). t.first) is in
    omega (arith, first, some, length-map new.records entry_of)

-- a server that pulls, with this list
pub restaged : (s : Server Entry) (pull : Pull) (items : List RecordFields) (new : StagedValue)
    → new ≡ record (pull.staged) { records = pull.staged.records ++ items }
    → pulling_with s (record pull { staged = new })
    ≡ record (pulling_with s pull) { staged = map entry_of new.records }
restaged s pull items new is =
    let first : new.first ≡ pull.staged.first = ap (λ (t : StagedValue). t.first) is in
    ap (λ (n : ℕ). record (pulling_with s pull) {
      wanted_from = n - 1;
      staged = map entry_of new.records;
    }) first

-- what a Give that isn't a misfit has is within the start
pub given_within : (me : ServerId) (mark : MarkFields) (horizon : HorizonValue) (served : ℕ)
    (duty : Task) (before : State) (n : NodeValue) (kept : Kept) (joining : Joining)
    (form : Form) (staged : StagedValue) (v first : ℕ) (items : List RecordFields)
    → before ≡ state.Pulls kept joining form staged
    → value me mark horizon served duty before ≡ n → (v == n.plain.promised) ≡ true
    → (all_of ((v == n.plain.promised) ∷ is_pulls n.plain.mode ∷ []) ≡ true
    → nat_le (first + length (map entry_of items)) (n.plain.plan.start + 1) ≡ true)
    → first + length items ≤ form.start + 1
given_within me mark horizon served duty before n kept joining form staged v first items at is view
    within =
    let now : value me mark horizon served duty (state.Pulls kept joining form staged) ≡ n =
    ap (value me mark horizon served duty) (sym at) ∙ is in
    subst (λ (n : NodeValue). (v == n.plain.promised) ≡ true
    → (all_of ((v == n.plain.promised) ∷ is_pulls n.plain.mode ∷ []) ≡ true
    → nat_le (first + length (map entry_of items)) (n.plain.plan.start + 1) ≡ true)
    → first + length items ≤ form.start + 1) now
    (λ same told.
    let fits = is_le (first + length (map entry_of items)) (form.start + 1) (told
    (all_true ((v == number_of_view mark.promised) ∷ true ∷ []) (same, (refl, tt)))) in
    omega (arith, fits, length-map items entry_of)) view within

-- ---- the moves of a Give, by what its call tells

pub some_first : (q : Place) (kept : Kept) (plan : Plan) (staged : StagedValue)
    → IsPulling q kept plan staged → 1 ≤ staged.first
some_first q kept plan staged h =
    let first = h.list.0 in
    omega (arith, first)

whole_list : (old : StagedValue) (items : List RecordFields) (new : StagedValue) (start : ℕ)
    → old.start ≡ start → new ≡ record old { records = old.records ++ items }
    → new.start < next new → start < old.first + length (old.records ++ items)
whole_list old items new start at is =
    subst (λ (t : StagedValue). t.start < next t → start < old.first + length (old.records ++
    items))
    (sym is) (λ full. omega (arith, full, at))

part_list : (old : StagedValue) (items : List RecordFields) (new : StagedValue) (start : ℕ)
    → old.start ≡ start → new ≡ record old { records = old.records ++ items }
    → (new.start < next new → ⊥) → start < old.first + length (old.records ++ items) → ⊥
part_list old items new start at is =
    subst (λ (t : StagedValue). (t.start < next t → ⊥)
    → start < old.first + length (old.records ++ items) → ⊥)
    (sym is) (λ part full. part (omega (arith, full, at)))

pub unwanted : (q : Place) (s : Server Entry) (pull : Pull) (first : ℕ) (items : List Entry)
    (taken : Bool) → IsPulling q pull.kept (plan_of pull.form) pull.staged
    → taken ≡ (first == next pull.staged) → taken ≡ false
    → on_give q (pulling_with s pull) s.promised first items ≡ []
unwanted q s pull first items taken pulls is none =
    given_none q s pull first items (some_first _ _ _ _ pulls) (sym is ∙ none)

pub all_given : (q : Place) (s : Server Entry) (pull : Pull) (first : ℕ)
    (items : List RecordFields) (taken : Bool) (new : StagedValue)
    → IsPulling q pull.kept (plan_of pull.form) pull.staged
    → first + length items ≤ pull.form.start + 1
    → taken ≡ (first == next pull.staged) → taken ≡ true
    → new ≡ (if taken then record (pull.staged) { records = pull.staged.records ++ items }
    else pull.staged) → new.start < next new
    → on_give q (pulling_with s pull) s.promised first (map entry_of items)
    ≡ accept_moves q (joined_with s pull.kept pull.joining) (plan_of pull.form)
    (map entry_of (pull.staged.records ++ items))
all_given q s pull first items taken new pulls within is some staged full =
    given_all q s pull first items (some_first _ _ _ _ pulls) (sym is ∙ some)
    (subst (λ (n : ℕ). n + length items ≤ pull.form.start + 1)
    (eqb-true first (next pull.staged) (sym is ∙ some)) within)
    (whole_list pull.staged items new pull.form.start pulls.list.1
    (staged_so taken pull.staged items new staged some) full)

-- with the list after the Give
pub whole_given : (q : Place) (s : Server Entry) (pull : Pull) (first : ℕ)
    (items : List RecordFields) (taken : Bool) (new : StagedValue)
    → IsPulling q pull.kept (plan_of pull.form) pull.staged
    → first + length items ≤ pull.form.start + 1
    → taken ≡ (first == next pull.staged) → taken ≡ true
    → new ≡ (if taken then record (pull.staged) { records = pull.staged.records ++ items }
    else pull.staged) → new.start < next new
    → on_give q (pulling_with s pull) s.promised first (map entry_of items)
    ≡ accept_moves q (joined_with s pull.kept pull.joining) (plan_of pull.form)
    (map entry_of new.records)
whole_given q s pull first items taken new pulls within is some staged full =
    all_given q s pull first items taken new pulls within is some staged full
    ∙ ap (λ (t : StagedValue). accept_moves q (joined_with s pull.kept pull.joining)
    (plan_of pull.form) (map entry_of t.records))
    (sym (staged_so taken pull.staged items new staged some))

pub some_given : (q : Place) (s : Server Entry) (pull : Pull) (first : ℕ)
    (items : List RecordFields) (taken : Bool) (new : StagedValue)
    → IsPulling q pull.kept (plan_of pull.form) pull.staged
    → taken ≡ (first == next pull.staged) → taken ≡ true
    → new ≡ (if taken then record (pull.staged) { records = pull.staged.records ++ items }
    else pull.staged) → (new.start < next new → ⊥)
    → on_give q (pulling_with s pull) s.promised first (map entry_of items)
    ≡ stages (pulling_with s pull) (map entry_of (pull.staged.records ++ items))
some_given q s pull first items taken new pulls is some staged part =
    given_part q s pull first items (some_first _ _ _ _ pulls) (sym is ∙ some)
    (part_list pull.staged items new pull.form.start pulls.list.1
    (staged_so taken pull.staged items new staged some) part)

pub part_given : (q : Place) (s : Server Entry) (pull : Pull) (first : ℕ)
    (items : List RecordFields) (taken : Bool) (new : StagedValue)
    → IsPulling q pull.kept (plan_of pull.form) pull.staged
    → taken ≡ (first == next pull.staged) → taken ≡ true
    → new ≡ (if taken then record (pull.staged) { records = pull.staged.records ++ items }
    else pull.staged) → (new.start < next new → ⊥)
    → on_give q (pulling_with s pull) s.promised first (map entry_of items)
    ≡ stages (pulling_with s pull) (map entry_of new.records)
part_given q s pull first items taken new pulls is some staged part =
    some_given q s pull first items taken new pulls is some staged part
    ∙ ap (λ (t : StagedValue). stages (pulling_with s pull) (map entry_of t.records))
    (sym (staged_so taken pull.staged items new staged some))

-- the list is still one for the same records
pub still_for : (q : Place) (kept : Kept) (plan : Plan) (old : StagedValue)
    (items : List RecordFields) (new : StagedValue) → IsFor q kept plan old
    → new ≡ record old { records = old.records ++ items } → IsFor q kept plan new
still_for q kept plan old items new h is =
    (ap (λ (t : StagedValue). t.first) is ∙ h.0, ap (λ (t : StagedValue). t.start) is ∙ h.1)

-- a server that pulls so fits its mark
pub pulls_fit : (me : ServerId) (mark : MarkFields) (horizon : HorizonValue) (served : ℕ)
    (duty : Task) (before : State) (n : NodeValue) (kept : Kept) (joining : Joining)
    (form : Form) (staged : StagedValue) → value me mark horizon served duty before ≡ n
    → CollectsStill duty → IsKept n.me n.mark kept → HearsOthers n.me joining
    → IsPulling n.me kept (plan_of form) staged
    → CollectsStill duty × Fits (place_of me) mark (state.Pulls kept joining form staged)
pulls_fit me mark horizon served duty before n kept joining form staged is collects at others
    pulls = (
      collects,
      (
        subst (λ (x : NodeValue). IsKept x.me x.mark kept) (sym is) at,
        some_first _ _ _ _ pulls,
        subst (λ (x : NodeValue). HearsOthers x.me joining) (sym is) others,
        subst (λ (x : NodeValue). IsPulling x.me kept (plan_of form) staged) (sym is) pulls,
      ),
    )
