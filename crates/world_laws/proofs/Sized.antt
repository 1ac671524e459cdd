-- What a step sends has as many bytes as its run says.
use Rattle.std.proofs.Common.{◌≡◌, ◌⊎◌, ℕ, ◌+◌, ◌-◌, ◌≤◌, true, List, [], length, take, Some, refl, sym, ap, ◌∙◌, subst, inl, inr, arith, le_trans, ⊎_elim}
use Rattle.std.specs.Prelude.{⊤, map, slice_get}
use Rattle.std.proofs.lemmas.List.{take-take}
use Rattle.event_record.specs.Bytes.{record_bytes}
use Rattle.event_record.specs.Record.{entry_of}
use Rattle.event_record.specs.declared.record.RecordFields.{RecordFields}
use Rattle.file_tree.specs.Book.{Entry}
use Rattle.group_trace.specs.DiskCalls.{measures_of}
use Rattle.group_rules.specs.Moves.{Move, Sending, moved_by}
use Rattle.group_rules.specs.Names.{number_of_view, view_of}
use Rattle.group_rules.specs.Places.{Place}
use Rattle.group_rules.specs.State.{Event, Give, Group, Log, Message, Server, top}
use Rattle.group_rules.specs.Step.{Comes, Does, Input as Begins, list_of}
use Rattle.group_safety.proofs.Adopting.{source_from}
use Rattle.group_safety.proofs.Moving.{Goes, goes_good, goes_grows, its}
use Rattle.group_safety.proofs.Safe.{good_of, input_goes}
use Rattle.group_safety.proofs.Steps.{Known}
use Rattle.group_safety.specs.Laws.{PageGrows, Whole}
use Rattle.group_safety.specs.Words.{In}
use Rattle.harp_base.specs.Fields.{many_bytes}
use Rattle.world_laws.proofs.Fronts.{AreSteady, AllReach, Reaches, Sends, Stays, all_stay, in_quiet, in_reach, step_sends}
use Rattle.world_laws.proofs.Spelled.{event_size, first_changes, give_size, held_back, id_back, pair_back, record_size_is, records_size_is}
use Rattle.world_laws.proofs.HostSteps.{known}
use Rattle.world_laws.specs.Sizes.{MessagesAreSized}
use Rattle.world_rules.specs.Spellings.{plain_record, plain_records, spellings, told_as}
use Rattle.world_rules.specs.Steps.{moves_at}
use Rattle.node_outputs.specs.Messages.{heard}
use Rattle.node_outputs.specs.Records.{carried}
use Rattle.world_laws.proofs.Lists.{take_agree}
use Rattle.world_laws.proofs.Right.{top_within}
use Rattle.world_laws.proofs.Sends.{all_tell, some_is}
use Rattle.world_laws.proofs.Told.{IsSource, Quiet, QuietAll, Tells, TellsAll, deed_step_tells, message_step_tells}
use Rattle.world_laws.specs.Stocks.{Carries}
use Rattle.view_form.proofs.Views.{view_back}
use Rattle.wire.specs.Messages.{message_bytes}
use Rattle.wire.specs.declared.message.Message.{Message as Wire}
use Rattle.wire.specs.declared.message.Message.TheVariants as wire

-- ---- the lists

-- the list of a server begins as that of a view
abbrev BeginsAs : Group Entry → Place → ℕ → ℕ → Type 0
BeginsAs g q v n = take n (list_of g q) ≡ take n (g.page v).list

-- the group after a step that keeps the server's view and its records up to top
record Kept (g g' : Group Entry) (q : Place) : Type 0 where
  grows : (v : ℕ) → (g.page v).formed ≡ true → PageGrows (g.page v) (g'.page v)
  stays : Stays (g.server q) (g'.server q)

own_begins : (g g' : Group Entry) (q : Place) → Kept g g' q → (n : ℕ) → n ≤ top (g.server q)
    → BeginsAs g' q (g.server q).accepted n
own_begins g g' q kept n le =
    let high = kept.stays.top in
    take-take n (top (g'.server q)) (g'.page (g'.server q).accepted).list (le_trans le high)
    ∙ ap (λ v. take n (g'.page v).list) kept.stays.view

-- a source's list is what its view starts from
source_begins : (g : Group Entry) → Whole g → (g' : Group Entry) (q : Place) → Kept g g' q
    → (v : ℕ) → IsSource g q (g.server q) v → (n : ℕ) → n ≤ top (g.server q)
    → BeginsAs g' q v n
source_begins g w g' q kept v src n le =
    let s = g.server q in
    let h = good_of g w q in
    let formed = (its h).views.formed in
    let from = source_from g q s h src.joins src.formed src.held src.source in
    let page = w.ok.page s.promised src.formed in
    let L = (g.page s.accepted).list in
    let W = (g.page s.promised).list in
    let own = kept.grows s.accepted formed in
    let new = kept.grows s.promised src.formed in
    let within = top_within g q s h in
    let start = page.start_within in
    let low : n ≤ (g.page s.promised).plan.start = omega (arith, le, from.1) in
    own_begins g g' q kept n le
    ∙ sym (take_agree n L (g'.page s.accepted).list (omega (arith, le, within))
    (omega (arith, le, within, own.longer))
    (λ j l. own.agree j (omega (arith, l, le, within))))
    ∙ take_agree n L W (omega (arith, le, within)) (omega (arith, low, start))
    (λ j l. ap (λ (n : ℕ). slice_get (g.page n).list j) from.0
    ∙ page.begins j (omega (arith, l, low)))
    ∙ take_agree n W (g'.page s.promised).list (omega (arith, low, start))
    (omega (arith, low, start, new.longer))
    (λ j l. new.agree j (omega (arith, l, low, start)))
    ∙ ap (λ v. take n (g'.page v).list) (sym src.view)

sent_begins : (g : Group Entry) → Whole g → (g' : Group Entry) (q : Place) → Kept g g' q
    → (v : ℕ) → (v ≡ (g.server q).accepted) ⊎ IsSource g q (g.server q) v → (n : ℕ)
    → n ≤ top (g.server q) → BeginsAs g' q v n
sent_begins g w g' q kept v o n le = ⊎_elim
    (λ (e : v ≡ (g.server q).accepted). subst (λ v. BeginsAs g' q v n) (sym e)
    (own_begins g g' q kept n le))
    (λ (src : IsSource g q (g.server q) v). source_begins g w g' q kept v src n le) o

-- ---- the bytes

-- where the list begins as that of the message's view
abbrev BeginsFor : Group Entry → Place → Message Entry → Type 0
BeginsFor g q (Event v index cp base e) = BeginsAs g q v (index - 1)
BeginsFor g q (Give v index items) = BeginsAs g q v (index - 1)
BeginsFor g q m = ⊤

bytes_same : (g : Group Entry) (q : Place) (x : Wire) (m : Message Entry) → heard x ≡ Some m
    → BeginsFor g q m → Carries g.page m (carried x)
    → length (message_bytes x) ≡ length (message_bytes (told_as (list_of g q) m))
bytes_same g q x m is = by x m is
  where
    list : List Entry
    list = list_of g q

    Same : Wire → Message Entry → Type 0
    Same x m = BeginsFor g q m → Carries g.page m (carried x)
        → length (message_bytes x) ≡ length (message_bytes (told_as list m))

    event : (view : _) (cp base : ℕ) (r : RecordFields) → Same (wire.Event view cp base r)
        (Event (number_of_view view) r.index cp base (entry_of r))
    event view cp base r begins carries =
        let L = (g.page (number_of_view view)).list in
        event_size view cp base r
        ∙ ap (λ k. 26 + k) (record_size_is (take (r.index - 1) L) r
        (first_changes L (r.index - 1) r [] carries.1.entries carries.1.changes)
        ∙ ap (λ es. length (record_bytes (plain_record es (entry_of r)))) (sym begins))
        ∙ sym (event_size (view_of (number_of_view view)) cp base
        (plain_record (take (r.index - 1) list) (entry_of r)))

    give : (view : _) (first : ℕ) (rs : List RecordFields) → Same (wire.Give view first rs)
        (Give (number_of_view view) first (map entry_of rs))
    give view first rs begins carries =
        let L = (g.page (number_of_view view)).list in
        give_size view first rs
        ∙ ap (λ k. 20 + k) (records_size_is L rs (first - 1) carries.1.entries carries.1.changes
        ∙ ap (λ es. length (many_bytes record_bytes (plain_records es (map entry_of rs))))
        (sym begins))
        ∙ sym (give_size (view_of (number_of_view view)) first
        (plain_records (take (first - 1) list) (map entry_of rs)))

    by : (x : Wire) (m : Message Entry) → heard x ≡ Some m → Same x m
    by (wire.Event view cp base r) m is = subst (Same (wire.Event view cp base r))
        (some_is _ m is) (event view cp base r)
    by (wire.Give view first rs) m is = subst (Same (wire.Give view first rs))
        (some_is _ m is) (give view first rs)
    by (wire.Invite view) m is = subst (Same (wire.Invite view)) (some_is _ m is)
        (λ b c. rw (view_back view) refl)
    by (wire.Join view has accepted base lb cp top horizon) m is =
        subst (Same (wire.Join view has accepted base lb cp top horizon)) (some_is _ m is)
        (λ b c. rw (view_back view, view_back accepted, held_back has) refl)
    by (wire.Form view pair source base cp start horizon) m is =
        subst (Same (wire.Form view pair source base cp start horizon)) (some_is _ m is)
        (λ b c. rw (view_back view, pair_back pair, id_back source) refl)
    by (wire.Fetch view first) m is = subst (Same (wire.Fetch view first)) (some_is _ m is)
        (λ b c. rw (view_back view) refl)
    by (wire.Formed view lb) m is = subst (Same (wire.Formed view lb)) (some_is _ m is)
        (λ b c. rw (view_back view) refl)
    by (wire.Beat view cp base) m is = subst (Same (wire.Beat view cp base)) (some_is _ m is)
        (λ b c. rw (view_back view) refl)
    by (wire.Ack view top lb until) m is = subst (Same (wire.Ack view top lb until))
        (some_is _ m is) (λ b c. rw (view_back view) refl)
    by (wire.Demote view) m is = subst (Same (wire.Demote view)) (some_is _ m is)
        (λ b c. rw (view_back view) refl)
    by (wire.Ask client number cred call) m is = cc
    by (wire.Answer client number index reply) m is = cc
    by (wire.CannotServe client number cause) m is = cc

-- ---- a step

step_tells : (g : Group Entry) → Whole g → (q : Place) (i : Begins) → Known g q i
    → TellsAll g q (g.server q) (list_of g q) (moves_at g q i)
step_tells g w q (Does d) k =
    deed_step_tells (measures_of spellings).size g q (g.server q) (list_of g q) d
step_tells g w q (Comes from m) k =
    message_step_tells (measures_of spellings).size g q (g.server q) (list_of g q) from m k.0

served_few : (g : Group Entry) → Whole g → (q : Place) → (g.server q).held ≡ Log
    → (g.server q).served ≤ top (g.server q)
served_few g w q held =
    let logs = (its (good_of g w q)).logs in
    le_trans (logs.served held) (logs.log held).holds.from_start

begins_for : (g : Group Entry) → Whole g → (q : Place) (ms : List (Move Entry))
    → Goes g q (g.server q) ms → Sends q (g.clock q) (g.server q) ms
    → TellsAll g q (g.server q) (list_of g q) ms → (to : Place) (m : Message Entry)
    → In ms (Sending to m) → BeginsFor (moved_by g q (g.server q) ms) q m
begins_for g w q ms goes sends tells to m sent =
    by m (all_tell ms g q s (list_of g q) tells (Sending to m) sent) (⊎_elim
    (λ (n : QuietAll ms). inl (in_quiet ms (Sending to m) n sent))
    (λ (y : AreSteady q (g.clock q) s ms × AllReach s ms).
    inr (kept y.0, in_reach ms s (Sending to m) y.1 sent)) sends)
  where
    s : Server Entry
    s = g.server q

    g' : Group Entry
    g' = moved_by g q s ms

    kept : AreSteady q (g.clock q) s ms → Kept g g' q
    kept steady = record {
      grows = (goes_grows ms g q s goes).each;
      stays = subst (Stays s) (sym (goes_good ms g q s goes).is) (all_stay ms q (g.clock q) s
          steady);
    }

    by : (m : Message Entry) → Tells g q s (list_of g q) (Sending to m)
        → Quiet (Sending to m) ⊎ (Kept g g' q × Reaches s (Sending to m)) → BeginsFor g' q m
    by (Event v index cp base e) t o = ⊎_elim (λ (n : Quiet (Sending to (Event v index cp base e))).
        absurd n)
        (λ (y : Kept g g' q × (index ≤ top s + 1)). sent_begins g w g' q y.0 v (inl t)
        (index - 1) (omega (arith, y.1))) o
    by (Give v index items) t o = ⊎_elim (λ (n : Quiet (Sending to (Give v index items))).
        absurd n)
        (λ (y : Kept g g' q × (index ≤ top s + 1)). sent_begins g w g' q y.0 v t
        (index - 1) (omega (arith, y.1))) o
    by m t o = tt

pub messages_sized : MessagesAreSized
messages_sized g w q up i b to m sent x is carries =
    let size = (measures_of spellings).size in
    let k = known g w q i b in
    bytes_same (moved_by g q (g.server q) (moves_at g q i)) q x m is
    (begins_for g w q (moves_at g q i) (input_goes size g w q up i k)
    (step_sends size q (g.clock q) (list_of g q) (g.server q) i (served_few g w q))
    (step_tells g w q i k) to m sent)
    carries
