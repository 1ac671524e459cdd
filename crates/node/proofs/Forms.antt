-- The part of a storer: it takes none, accepts at once, or pulls.
use Rattle.std.proofs.Common.{◌≡◌, ℕ, ◌+◌, ◌-◌, arith, ◌||◌, ◌==◌, Bool, true, false, List, [], ◌∷◌, refl, ap, sym, ◌∙◌, subst, if◌then◌else◌}
use Rattle.std.specs.Prelude.{map}
use Rattle.event_record.specs.Record.{entry_of}
use Rattle.event_record.specs.declared.record.RecordFields.{RecordFields}
use Rattle.file_tree.specs.Book.{Entry}
use Rattle.group_rules.proofs.Tests.{all_true, each_of, if_is, if_not}
use Rattle.group_rules.specs.Form.{accept_moves, fits, fits_tests, form_moves, wanted}
use Rattle.group_rules.specs.Limits.{is_joins}
use Rattle.group_rules.specs.Moves.{Move, Pulling, Sending}
use Rattle.group_rules.specs.Places.{Place, all_of, is_in, same}
use Rattle.group_rules.specs.State.{Fetch, Plan, Pulls, Server}
use Rattle.group_rules.specs.Names.{place_of}
use Rattle.harp_types.specs.declared.server.ServerId.{ServerId}
use Rattle.harp_store.specs.Mark.{MarkFields}
use Rattle.idle_log.specs.Kept.{plan_of, with_kept}
use Rattle.idle_log.specs.declared.form.Form.{Form}
use Rattle.idle_log.specs.declared.kept.Kept.{Kept}
use Rattle.node.proofs.Calls.{mute}
use Rattle.node.proofs.Saying.{unsaid}
use Rattle.node.specs.Forming.{joined_with, pulling_with}
use Rattle.node.specs.Node.{NodeValue, server, value}
use Rattle.node.specs.State.{IsKept}
use Rattle.node.specs.declared.state.Joining.{Joining}
use Rattle.node.specs.declared.state.State.{State}
use Rattle.node.specs.declared.state.State.TheVariants as state
use Rattle.node.specs.declared.state.Task.{Task}
use Rattle.promise.specs.Promise.{HorizonValue}
use Rattle.volatile_log.specs.Log.{StagedValue}
use Rattle.node_outputs.proofs.Makes.{makes_then}
use Rattle.node_outputs.specs.Makes.{Makes}
use Rattle.node_outputs.specs.Said.{said}
use Rattle.node_outputs.specs.declared.outputs.Outputs.{Outputs}

-- ---- which moves

none_of : (a b : Bool) (ms : List (Move Entry)) → b ≡ false
    → (if all_of (a ∷ b ∷ []) then ms else []) ≡ []
unfolding all_of
none_of true true ms h = cc
none_of true false ms h = refl
none_of false b ms h = refl

-- a plan that doesn't fit
pub no_part : (q : Place) (s : Server Entry) (plan : Plan) → fits q s plan ≡ false
    → form_moves q s plan ≡ []
no_part q s plan h = none_of (is_joins s.mode) (fits q s plan) _ h

both : (a b : Bool) → a ≡ true → b ≡ true → all_of (a ∷ b ∷ []) ≡ true
both a b h k = all_true (a ∷ b ∷ []) (h, (k, tt))

pub at_once : (q : Place) (s : Server Entry) (plan : Plan) → is_joins s.mode ≡ true
    → fits q s plan ≡ true → (same q plan.source || (wanted q s plan == plan.start)) ≡ true
    → form_moves q s plan ≡ accept_moves q s plan []
at_once q s plan joins fit whole =
    if_is (all_of (is_joins s.mode ∷ fits q s plan ∷ [])) _ []
    (both (is_joins s.mode) (fits q s plan) joins fit)
    ∙ if_is (same q plan.source || (wanted q s plan == plan.start)) (accept_moves q s plan []) _
    whole

abbrev pub begins : Place → Server Entry → Plan → List (Move Entry)
begins q s plan = Pulling plan (wanted q s plan)
    ∷ Sending plan.source (Fetch s.promised (wanted q s plan + 1)) ∷ []

pub pulls : (q : Place) (s : Server Entry) (plan : Plan) → is_joins s.mode ≡ true
    → fits q s plan ≡ true → (same q plan.source || (wanted q s plan == plan.start)) ≡ false
    → form_moves q s plan ≡ begins q s plan
pulls q s plan joins fit part =
    if_is (all_of (is_joins s.mode ∷ fits q s plan ∷ [])) _ []
    (both (is_joins s.mode) (fits q s plan) joins fit)
    ∙ if_not (same q plan.source || (wanted q s plan == plan.start)) (accept_moves q s plan []) _
    part

-- a storer's place
pub stores : (q : Place) (s : Server Entry) (plan : Plan) → fits q s plan ≡ true
    → is_in plan.storers q ≡ true
stores q s plan fit = (each_of (fits_tests q s plan) fit).0

-- ---- a pull begins

pub pulling : (q : Place) (clock : ℕ) (s new : Server Entry) (plan : Plan) (index : ℕ)
    (before after : Outputs) → index ≡ wanted q s plan + 1
    → new ≡ record s { mode = Pulls; plan = plan; wanted_from = wanted q s plan; staged = [] }
    → Makes q clock (Sending plan.source (Fetch s.promised index) ∷ []) [] new new before after
    → Makes q clock (begins q s plan) [] s new before after
pulling q clock s new plan index before after is made sends =
    let first : Makes q clock (Pulling plan (wanted q s plan) ∷ []) [] s new before before =
    record { state = made; said = unsaid (said before) } in
    let second = subst (λ (i : ℕ). Makes q clock
    (Sending plan.source (Fetch s.promised i) ∷ []) [] new new before after) is sends in
    makes_then q clock (Pulling plan (wanted q s plan) ∷ [])
    (Sending plan.source (Fetch s.promised (wanted q s plan + 1)) ∷ []) [] [] s new new
    before before after first second
    (mute (Sending plan.source (Fetch s.promised (wanted q s plan + 1)) ∷ []) (tt, tt))

-- ---- at a node

-- a server that joined
pub joined_is : (me : ServerId) (mark : MarkFields) (horizon : HorizonValue) (served : ℕ)
    (duty : Task) (before : State) (n : NodeValue) (kept : Kept) (joining : Joining)
    (items : List Entry) → value me mark horizon served duty before ≡ n
    → IsKept n.me n.mark kept
    → server (value me mark horizon served duty (state.Joined kept joining)) items
    ≡ joined_with (server n items) kept joining
joined_is me mark horizon served duty before n kept joining items is h =
    subst (λ (n : NodeValue). IsKept n.me n.mark kept → server (value me mark horizon served duty
    (state.Joined kept joining)) items ≡ joined_with (server n items) kept joining) is
    (λ k. rw k.lb refl) h

-- the tests of a plan are those of the server that joined
fits_at : (me : ServerId) (mark : MarkFields) (horizon : HorizonValue) (served : ℕ) (duty : Task)
    (before : State) (n : NodeValue) (at : NodeValue → Server Entry) (kept : Kept)
    (joining : Joining) (plan : Plan) (b : Bool) (lb : ℕ)
    → (at (value me mark horizon served duty before)).lb ≡ lb
    → value me mark horizon served duty before ≡ n
    → ((s : Server Entry)
    → b ≡ fits (place_of me) (with_kept (record s { lb = lb }) kept) plan)
    → fits n.me (joined_with (at n) kept joining) plan ≡ b
fits_at me mark horizon served duty before n at kept joining plan b lb low is test =
    let old = at (value me mark horizon served duty before) in
    subst (λ (n : NodeValue). fits n.me (joined_with (at n) kept joining) plan ≡ b) is
    (ap (λ (l : ℕ). fits (place_of me) (joined_with (record old { lb = l }) kept joining) plan)
    low ∙ sym (test old))

pub none_at : (me : ServerId) (mark : MarkFields) (horizon : HorizonValue) (served : ℕ)
    (duty : Task) (before : State) (n : NodeValue) (at : NodeValue → Server Entry) (kept : Kept)
    (joining : Joining) (plan : Plan) (b : Bool) (lb : ℕ)
    → (at (value me mark horizon served duty before)).lb ≡ lb
    → value me mark horizon served duty before ≡ n
    → ((s : Server Entry)
    → b ≡ fits (place_of me) (with_kept (record s { lb = lb }) kept) plan) → b ≡ false
    → form_moves n.me (joined_with (at n) kept joining) plan ≡ []
none_at me mark horizon served duty before n at kept joining plan b lb low is test unfit =
    no_part n.me (joined_with (at n) kept joining) plan
    (fits_at me mark horizon served duty before n at kept joining plan b lb low is test ∙ unfit)

-- a test of the place that is made of any server
tested_at : (me : ServerId) (mark : MarkFields) (horizon : HorizonValue) (served : ℕ)
    (duty : Task) (before : State) (n : NodeValue) (at : NodeValue → Server Entry) (kept : Kept)
    (joining : Joining) (plan : Plan) (b : Bool) → value me mark horizon served duty before ≡ n
    → ((s : Server Entry) → (same (place_of me) plan.source
    || (wanted (place_of me) (with_kept s kept) plan == plan.start)) ≡ b)
    → (same n.me plan.source
    || (wanted n.me (joined_with (at n) kept joining) plan == plan.start)) ≡ b
tested_at me mark horizon served duty before n at kept joining plan b is test =
    let old = value me mark horizon served duty before in
    subst (λ (n : NodeValue). (same n.me plan.source
    || (wanted n.me (joined_with (at n) kept joining) plan == plan.start)) ≡ b) is
    (test (at old))

pub whole_at : (me : ServerId) (mark : MarkFields) (horizon : HorizonValue) (served : ℕ)
    (duty : Task) (before : State) (n : NodeValue) (at : NodeValue → Server Entry) (kept : Kept)
    (joining : Joining) (plan : Plan) (b : Bool) (lb : ℕ)
    → (at (value me mark horizon served duty before)).lb ≡ lb
    → value me mark horizon served duty before ≡ n
    → ((s : Server Entry)
    → b ≡ fits (place_of me) (with_kept (record s { lb = lb }) kept) plan) → b ≡ true
    → ((s : Server Entry) → (same (place_of me) plan.source
    || (wanted (place_of me) (with_kept s kept) plan == plan.start)) ≡ true)
    → form_moves n.me (joined_with (at n) kept joining) plan
    ≡ accept_moves n.me (joined_with (at n) kept joining) plan []
whole_at me mark horizon served duty before n at kept joining plan b lb low is test fit whole =
    at_once n.me (joined_with (at n) kept joining) plan refl
    (fits_at me mark horizon served duty before n at kept joining plan b lb low is test ∙ fit)
    (tested_at me mark horizon served duty before n at kept joining plan true is whole)

pub part_at : (me : ServerId) (mark : MarkFields) (horizon : HorizonValue) (served : ℕ)
    (duty : Task) (before : State) (n : NodeValue) (at : NodeValue → Server Entry) (kept : Kept)
    (joining : Joining) (plan : Plan) (b : Bool) (lb : ℕ)
    → (at (value me mark horizon served duty before)).lb ≡ lb
    → value me mark horizon served duty before ≡ n
    → ((s : Server Entry)
    → b ≡ fits (place_of me) (with_kept (record s { lb = lb }) kept) plan) → b ≡ true
    → ((s : Server Entry) → (same (place_of me) plan.source
    || (wanted (place_of me) (with_kept s kept) plan == plan.start)) ≡ false)
    → form_moves n.me (joined_with (at n) kept joining) plan
    ≡ begins n.me (joined_with (at n) kept joining) plan
part_at me mark horizon served duty before n at kept joining plan b lb low is test fit part =
    pulls n.me (joined_with (at n) kept joining) plan refl
    (fits_at me mark horizon served duty before n at kept joining plan b lb low is test ∙ fit)
    (tested_at me mark horizon served duty before n at kept joining plan false is part)

pub stores_at : (me : ServerId) (lb : ℕ) (s : Server Entry) (kept : Kept) (plan : Plan)
    (b : Bool) → ((s : Server Entry)
    → b ≡ fits (place_of me) (with_kept (record s { lb = lb }) kept) plan) → b ≡ true
    → is_in plan.storers (place_of me) ≡ true
stores_at me lb s kept plan b test fit =
    stores (place_of me) (with_kept (record s { lb = lb }) kept) plan (sym (test s) ∙ fit)

-- a number that is wanted of any server
pub wanted_at : (me : ServerId) (mark : MarkFields) (horizon : HorizonValue) (served : ℕ)
    (duty : Task) (before : State) (n : NodeValue) (at : NodeValue → Server Entry) (kept : Kept)
    (joining : Joining) (plan : Plan) (w : ℕ) → value me mark horizon served duty before ≡ n
    → ((s : Server Entry) → w ≡ wanted (place_of me) (with_kept s kept) plan)
    → w ≡ wanted n.me (joined_with (at n) kept joining) plan
wanted_at me mark horizon served duty before n at kept joining plan w is test =
    subst (λ (n : NodeValue). w ≡ wanted n.me (joined_with (at n) kept joining) plan) is
    (test (at (value me mark horizon served duty before)))

-- a server that begins to pull
pub begins_so : (q : Place) (s : Server Entry) (kept : Kept) (joining : Joining) (form : Form)
    (staged : StagedValue)
    → staged.first ≡ wanted q (joined_with s kept joining) (plan_of form) + 1
    → staged.records ≡ []
    → pulling_with s (record { kept = kept; joining = joining; form = form; staged = staged })
    ≡ record (joined_with s kept joining) {
      mode = Pulls;
      plan = plan_of form;
      wanted_from = wanted q (joined_with s kept joining) (plan_of form);
      staged = [];
    }
begins_so q s kept joining form staged first empty =
    let w = wanted q (joined_with s kept joining) (plan_of form) in
    let from : staged.first - 1 ≡ w = omega (arith, first) in
    ap (λ (n : ℕ). record (joined_with s kept joining) {
      mode = Pulls;
      plan = plan_of form;
      wanted_from = n;
      staged = map entry_of staged.records;
    }) from
    ∙ ap (λ (rs : List RecordFields). record (joined_with s kept joining) {
      mode = Pulls;
      plan = plan_of form;
      wanted_from = w;
      staged = map entry_of rs;
    }) empty

pub no_test : (b : Bool) → (b ≡ true → ⊥) → b ≡ false
no_test true h = absurd (h refl)
no_test false h = refl

-- a storer that has still to pull isn't the source
pub not_source : (a b : Bool) → ((a || b) ≡ true → ⊥) → a ≡ false
not_source true b h = absurd (h refl)
not_source false b h = refl
