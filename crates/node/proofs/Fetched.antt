-- What a fetch is given.
use Rattle.std.proofs.Common.{◌≡◌, ℕ, ◌≤◌, Bool, true, false, List, [], ◌∷◌, ◌++◌, refl, sym, ap, ◌∙◌, subst, arith, if◌then◌else◌}
use Rattle.std.specs.Prelude.{Option, None, Some, map}
use Rattle.std.proofs.lemmas.List.{length-map}
use Rattle.event_record.specs.Record.{entry_of}
use Rattle.event_record.specs.declared.record.RecordFields.{RecordFields}
use Rattle.file_tree.specs.Book.{Entry}
use Rattle.group_rules.specs.Moves.{Move}
use Rattle.group_rules.specs.Places.{Place, all_of}
use Rattle.group_rules.specs.Serving.{gives, on_fetch, serving_accepted, serving_joined}
use Rattle.group_rules.specs.State.{Give, Server, top}
use Rattle.harp_types.specs.declared.server.ServerId.{ServerId}
use Rattle.harp_store.specs.Mark.{MarkFields}
use Rattle.idle_log.specs.Gives.{GivesFound, given_moves}
use Rattle.idle_log.specs.Kept.{log_in, with_kept}
use Rattle.idle_log.specs.declared.form.Form.{Form}
use Rattle.idle_log.specs.declared.kept.Kept.{Kept}
use Rattle.idle_log.specs.LogLaws.{with_log}
use Rattle.node.proofs.Sent.{AreSent, sent_made}
use Rattle.node.specs.Node.{NodeValue, server, value}
use Rattle.node.specs.Serving.{AreSizedTo, FindsGiven, IsSized, last_served}
use Rattle.node.specs.declared.state.Joining.{Joining}
use Rattle.node.specs.declared.state.State.{State}
use Rattle.node.specs.declared.state.State.TheVariants as state
use Rattle.node.specs.declared.state.Task.{Task}
use Rattle.node_outputs.specs.Makes.{Makes}
use Rattle.node_outputs.specs.Said.{said}
use Rattle.node_outputs.specs.declared.outputs.Outputs.{Outputs}
use Rattle.promise.specs.Promise.{HorizonValue}
use Rattle.replica.specs.Following.{Following}
use Rattle.replica.specs.Leading.{Leading}
use Rattle.volatile_log.specs.Log.{StagedValue}

-- ---- the records of each state's log

-- a node with this value is found the same
moved : (n old : NodeValue) (items : List Entry) (index last : ℕ)
    (found : Option (List RecordFields)) → old ≡ n → FindsGiven old items index last found
    → FindsGiven n items index last found
moved n old items index last found same given =
    subst (λ (x : NodeValue). FindsGiven x items index last found) same given

pub finds_rests : (me : ServerId) (mark : MarkFields) (horizon : HorizonValue) (served : ℕ)
    (duty : Task) (s : State) (kept : Kept) (n : NodeValue) (items : List Entry) (index last : ℕ)
    (found : Option (List RecordFields)) → value me mark horizon served duty s ≡ n
    → s ≡ state.Rests kept
    → ((t : Server Entry) → GivesFound (with_kept t kept) (log_in kept) index last found)
    → FindsGiven n items index last found
finds_rests me mark horizon served duty s kept n items index last found of at given =
    let old = value me mark horizon served duty (state.Rests kept) in
    moved n old items index last found (ap (value me mark horizon served duty) (sym at) ∙ of)
    (λ size list to v within sized. given (server old items) size list to v
    (omega (arith, within, length-map (log_in kept).records entry_of)) sized)

pub finds_joined : (me : ServerId) (mark : MarkFields) (horizon : HorizonValue) (served : ℕ)
    (duty : Task) (s : State) (kept : Kept) (joining : Joining) (n : NodeValue)
    (items : List Entry) (index last : ℕ)
    (found : Option (List RecordFields)) → value me mark horizon served duty s ≡ n
    → s ≡ state.Joined kept joining
    → ((t : Server Entry) → GivesFound (with_kept t kept) (log_in kept) index last found)
    → FindsGiven n items index last found
finds_joined me mark horizon served duty s kept joining n items index last found of at given =
    let old = value me mark horizon served duty (state.Joined kept joining) in
    moved n old items index last found (ap (value me mark horizon served duty) (sym at) ∙ of)
    (λ size list to v within sized. given (server old items) size list to v
    (omega (arith, within, length-map (log_in kept).records entry_of)) sized)

pub finds_pulls : (me : ServerId) (mark : MarkFields) (horizon : HorizonValue) (served : ℕ)
    (duty : Task) (s : State) (kept : Kept) (joining : Joining) (plan : Form)
    (staged : StagedValue) (n : NodeValue) (items : List Entry) (index last : ℕ)
    (found : Option (List RecordFields)) → value me mark horizon served duty s ≡ n
    → s ≡ state.Pulls kept joining plan staged
    → ((t : Server Entry) → GivesFound (with_kept t kept) (log_in kept) index last found)
    → FindsGiven n items index last found
finds_pulls me mark horizon served duty s kept joining plan staged n items index last found of at
    given =
    let old = value me mark horizon served duty (state.Pulls kept joining plan staged) in
    moved n old items index last found (ap (value me mark horizon served duty) (sym at) ∙ of)
    (λ size list to v within sized. given (server old items) size list to v
    (omega (arith, within, length-map (log_in kept).records entry_of)) sized)

pub finds_led : (me : ServerId) (mark : MarkFields) (horizon : HorizonValue) (served : ℕ)
    (duty : Task) (s : State) (l : Leading) (plan : Form) (n : NodeValue) (items : List Entry)
    (index last : ℕ)
    (found : Option (List RecordFields)) → value me mark horizon served duty s ≡ n
    → s ≡ state.Leads l plan
    → ((t : Server Entry) → GivesFound (with_log t l.log) l.log index last found)
    → FindsGiven n items index last found
finds_led me mark horizon served duty s l plan n items index last found of at given =
    let old = value me mark horizon served duty (state.Leads l plan) in
    moved n old items index last found (ap (value me mark horizon served duty) (sym at) ∙ of)
    (λ size list to v within sized. given (server old items) size list to v
    (omega (arith, within, length-map l.log.records entry_of)) sized)

pub finds_followed : (me : ServerId) (mark : MarkFields) (horizon : HorizonValue) (served : ℕ)
    (duty : Task) (s : State) (f : Following) (plan : Form) (n : NodeValue) (items : List Entry)
    (index last : ℕ)
    (found : Option (List RecordFields)) → value me mark horizon served duty s ≡ n
    → s ≡ state.Follows f plan
    → ((t : Server Entry) → GivesFound (with_log t f.log) f.log index last found)
    → FindsGiven n items index last found
finds_followed me mark horizon served duty s f plan n items index last found of at given =
    let old = value me mark horizon served duty (state.Follows f plan) in
    moved n old items index last found (ap (value me mark horizon served duty) (sym at) ∙ of)
    (λ size list to v within sized. given (server old items) size list to v
    (omega (arith, within, length-map f.log.records entry_of)) sized)

-- ---- the moves

abbrev given_to : (List Entry → Entry → ℕ) → List Entry → Server Entry → Place → ℕ → ℕ → Option ℕ
    → List (Move Entry)
given_to size list s to v index None = []
given_to size list s to v index (Some last) = gives size list s to v index last

fetched_by : (a b : Bool) (size : List Entry → Entry → ℕ) (list : List Entry) (s : Server Entry)
    (to : Place) (v index high low : ℕ)
    → (if a then gives size list s to v index high
    else (if b then gives size list s to v index low else []))
    ≡ given_to size list s to v index (if a then Some high else (if b then Some low else None))
fetched_by true b size list s to v index high low = refl
fetched_by false true size list s to v index high low = refl
fetched_by false false size list s to v index high low = refl

fetched : (size : List Entry → Entry → ℕ) (list : List Entry) (s : Server Entry) (to : Place)
    (v index : ℕ) → on_fetch size list s to v index
    ≡ given_to size list s to v index (last_served s v)
fetched size list s to v index =
    fetched_by (all_of (serving_joined s v)) (all_of (serving_accepted s v)) size list s to v index
    (top s) s.served

-- nothing is served of this view
pub fetches_none : (size : List Entry → Entry → ℕ) (list : List Entry) (s : Server Entry)
    (to : Place) (v index : ℕ) → None ≡ last_served s v → on_fetch size list s to v index ≡ []
fetches_none size list s to v index none =
    fetched size list s to v index ∙ ap (given_to size list s to v index) (sym none)

last_within : (a b : Bool) (high low last : ℕ) → low ≤ high
    → Some last ≡ (if a then Some high else (if b then Some low else None)) → last ≤ high
last_within true b high low last within is =
    let same : last ≡ high = cc in omega (arith, same)
last_within false true high low last within is =
    let same : last ≡ low = cc in omega (arith, same, within)
last_within false false high low last within is = cc

-- what is found is what the fetch is given
pub fetches : (n : NodeValue) (items : List Entry) (size : List Entry → Entry → ℕ)
    (list : List Entry) (to : Place) (v index last : ℕ) (found : Option (List RecordFields))
    → Some last ≡ last_served n.plain v → n.plain.served ≤ top n.plain
    → IsSized size list n v index → FindsGiven n items index last found
    → on_fetch size list (server n items) to v index ≡ given_moves to v index found
fetches n items size list to v index last found at within sized given =
    let s = server n items in
    let here = subst (λ (x : Option ℕ). AreSizedTo size list n index x) (sym at) sized in
    fetched size list s to v index
    ∙ ap (given_to size list s to v index) (sym at)
    ∙ sym (given size list to v (last_within (all_of (serving_joined n.plain v))
    (all_of (serving_accepted n.plain v)) (top n.plain) n.plain.served last within at) here)

given_sent : (to : Place) (v index : ℕ) (found : Option (List RecordFields))
    → AreSent (given_moves to v index found)
given_sent to v index None = tt
given_sent to v index (Some rs) = (tt, tt)

-- a Give that was said
pub gives_made : (q : Place) (clock : ℕ) (ms : List (Move Entry)) (s : Server Entry) (to : Place)
    (v index : ℕ) (rs : List RecordFields) (before after : Outputs)
    → ms ≡ given_moves to v index (Some rs)
    → said after ≡ record (said before) {
      sends = (said before).sends ++ (to, Some (Give v index (map entry_of rs))) ∷ [];
    }
    → Makes q clock ms [] s s before after
gives_made q clock ms s to v index rs before after is told =
    subst (λ (xs : List (Move Entry)). Makes q clock xs [] s s before after) (sym is)
    (sent_made q clock (given_moves to v index (Some rs)) s before after
    (given_sent to v index (Some rs)) told)
