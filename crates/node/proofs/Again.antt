-- What a puller and a partner send again.
use Rattle.std.proofs.Common.{◌≡◌, ℕ, ◌+◌, ◌-◌, ◌≤◌, Bool, true, false, List, [], ◌∷◌, length, refl, sym, ap, ◌∙◌, subst, arith}
use Rattle.std.specs.Prelude.{map}
use Rattle.std.proofs.lemmas.List.{length-map}
use Rattle.event_record.specs.Record.{entry_of}
use Rattle.file_tree.specs.Book.{Entry}
use Rattle.group_rules.specs.Limits.{is_pulls, is_waits}
use Rattle.group_rules.specs.Moves.{Sending}
use Rattle.group_rules.specs.Names.{number_of_view, place_of}
use Rattle.group_rules.specs.Places.{Pair, Place, all_of, partner, same}
use Rattle.group_rules.specs.State.{Fetch, Server, no_plan}
use Rattle.group_rules.specs.Tick.{again, again_tests}
use Rattle.harp_types.specs.declared.server.ServerId.{ServerId}
use Rattle.harp_store.specs.Mark.{MarkFields}
use Rattle.idle_log.specs.Kept.{plan_of}
use Rattle.idle_log.specs.declared.form.Form.{Form}
use Rattle.idle_log.specs.declared.kept.Kept.{Kept}
use Rattle.node.proofs.Heeds.{leader_is_other, no_first, none_of_two}
use Rattle.node.specs.Node.{NodeValue, server, value}
use Rattle.node.specs.State.{Fits}
use Rattle.node.specs.declared.state.Joining.{Joining}
use Rattle.node.specs.declared.state.State.{State}
use Rattle.node.specs.declared.state.State.TheVariants as state
use Rattle.node.specs.declared.state.Task.{Task}
use Rattle.promise.specs.Promise.{HorizonValue}
use Rattle.replica.specs.Leading.{mode_led, storers_led}
use Rattle.volatile_log.specs.Log.{StagedValue}

again_none : (q : Place) (s : Server Entry) → is_pulls s.mode ≡ false
    → all_of (again_tests q s) ≡ false → again q s ≡ []
again_none q s pulls waits = rw (pulls, waits) refl

pulls_led : (b : Bool) → is_pulls (mode_led b) ≡ false
pulls_led true = refl
pulls_led false = refl

abbrev pub sends_again : State → Bool
sends_again state.Gone = false
sends_again (state.Rests kept) = false
sends_again (state.Joined kept joining) = false
sends_again (state.Pulls kept joining plan staged) = true
sends_again (state.Leads leader plan) = false
sends_again (state.Follows partner plan) = true

none_again_at : (me : ServerId) (mark : MarkFields) (horizon : HorizonValue) (served : ℕ)
    (duty : Task) (s : State) (items : List Entry) → Fits (place_of me) mark s
    → sends_again s ≡ false
    → again (place_of me) (server (value me mark horizon served duty s) items) ≡ []
none_again_at me mark horizon served duty state.Gone items fits none =
    again_none (place_of me) (server (value me mark horizon served duty state.Gone) items) refl
    (no_first false (same (place_of me) (partner no_plan.storers) ∷ []) refl)
none_again_at me mark horizon served duty (state.Rests kept) items fits none =
    again_none (place_of me) (server (value me mark horizon served duty (state.Rests kept)) items)
    refl (no_first false (same (place_of me) (partner no_plan.storers) ∷ []) refl)
none_again_at me mark horizon served duty (state.Joined kept joining) items fits none =
    again_none (place_of me)
    (server (value me mark horizon served duty (state.Joined kept joining)) items)
    refl (no_first false (same (place_of me) (partner no_plan.storers) ∷ []) refl)
none_again_at me mark horizon served duty (state.Pulls kept joining plan staged) items fits none =
    cc
none_again_at me mark horizon served duty (state.Leads leads plan) items fits none =
    again_none (place_of me)
    (server (value me mark horizon served duty (state.Leads leads plan)) items)
    (pulls_led leads.opened)
    (none_of_two (is_waits (mode_led leads.opened))
    (same (place_of me) (partner (plan_of plan).storers))
    (ap (λ (p : Pair). same (place_of me) (partner p)) fits.storers
    ∙ ap (λ (q : Place). same q (partner (storers_led leads.beside (place_of me)))) (sym fits.place)
    ∙ leader_is_other (storers_led leads.beside (place_of me))))
none_again_at me mark horizon served duty (state.Follows follows plan) items fits none = cc

pub none_again : (me : ServerId) (mark : MarkFields) (horizon : HorizonValue) (served : ℕ)
    (duty : Task) (s : State) (n : NodeValue) (items : List Entry)
    → value me mark horizon served duty s ≡ n → Fits (place_of me) mark s
    → sends_again s ≡ false → again n.me (server n items) ≡ []
none_again me mark horizon served duty s n items of fits none =
    subst (λ (x : NodeValue). again x.me (server x items) ≡ []) of
    (none_again_at me mark horizon served duty s items fits none)

next_staged : (staged : StagedValue) → 1 ≤ staged.first
    → staged.first - 1 + length (map entry_of staged.records) + 1
    ≡ staged.first + length staged.records
next_staged staged some = omega (arith, some, length-map staged.records entry_of)

pull_again : (q : Place) (s : Server Entry) → is_pulls s.mode ≡ true
    → all_of (again_tests q s) ≡ false → again q s
    ≡ Sending s.plan.source (Fetch s.promised (s.wanted_from + length s.staged + 1)) ∷ []
pull_again q s pulls waits = rw (pulls, waits) refl

-- a puller's list begins with the record 1 or a later one
pulls_from : (me : Place) (mark : MarkFields) (kept : Kept) (joining : Joining) (plan : Form)
    (staged : StagedValue) → Fits me mark (state.Pulls kept joining plan staged)
    → 1 ≤ staged.first
pulls_from me mark kept joining plan staged fits = fits.1

-- a puller's Fetch of the record that it wants next
pub fetches_again : (me : ServerId) (mark : MarkFields) (horizon : HorizonValue) (served : ℕ)
    (duty : Task) (s : State) (kept : Kept) (joining : Joining) (plan : Form)
    (staged : StagedValue) (n : NodeValue) (items : List Entry)
    → value me mark horizon served duty s ≡ n → s ≡ state.Pulls kept joining plan staged
    → Fits (place_of me) mark s
    → again n.me (server n items) ≡ Sending (place_of plan.source)
    (Fetch (number_of_view mark.promised) (staged.first + length staged.records)) ∷ []
fetches_again me mark horizon served duty s kept joining plan staged n items of at fits =
    let there = subst (λ (x : State). Fits (place_of me) mark x) at fits in
    let old = value me mark horizon served duty (state.Pulls kept joining plan staged) in
    let whole : old ≡ n = ap (value me mark horizon served duty) (sym at) ∙ of in
    subst (λ (x : NodeValue). again x.me (server x items) ≡ Sending (place_of plan.source)
    (Fetch (number_of_view mark.promised) (staged.first + length staged.records)) ∷ []) whole
    (pull_again (place_of me) (server old items) refl
    (no_first false (same (place_of me) (partner (plan_of plan).storers) ∷ []) refl)
    ∙ ap (λ k. Sending (place_of plan.source) (Fetch (number_of_view mark.promised) k) ∷ [])
    (next_staged staged (pulls_from (place_of me) mark kept joining plan staged there)))
