-- A Formed at a leader.
use Rattle.std.proofs.Common.{◌≡◌, ℕ, ◌||◌, ◌==◌, Bool, true, false, List, [], ◌∷◌, refl, ap, sym, subst, ◌∙◌}
use Rattle.std.proofs.lemmas.Bool.{eqb-true}
use Rattle.file_tree.specs.Book.{Entry}
use Rattle.group_rules.proofs.Tests.{all_true, by_if, each_of, eq_is}
use Rattle.group_rules.specs.Limits.{is_active, is_joining, is_waits}
use Rattle.group_rules.specs.Misfits.{heard_tests}
use Rattle.group_rules.specs.Moves.{Hearing, acts}
use Rattle.group_rules.specs.Names.{number_of_view, place_of}
use Rattle.group_rules.specs.Open.{on_formed}
use Rattle.group_rules.specs.Places.{Zero, One, Two, Place, all_of, partner, same}
use Rattle.group_rules.specs.Replicate.{is_in_view}
use Rattle.group_rules.specs.State.{Server}
use Rattle.harp_types.specs.declared.server.ServerId.{ServerId}
use Rattle.harp_store.specs.Mark.{MarkFields}
use Rattle.idle_log.specs.Kept.{plan_of}
use Rattle.idle_log.specs.declared.form.Form.{Form}
use Rattle.node.proofs.Accepts.{HearsFormed}
use Rattle.node.proofs.Hears.{heeds_none}
use Rattle.node.proofs.Led.{AreQuiet, as_led, leads_on}
use Rattle.node.specs.Node.{NodeValue, server, value}
use Rattle.node.specs.State.{Fits, IsLeading, outer}
use Rattle.node.specs.declared.state.State.{State}
use Rattle.node.specs.declared.state.State.TheVariants as state
use Rattle.node.specs.declared.state.Task.{Task}
use Rattle.promise.specs.Promise.{HorizonValue}
use Rattle.replica.specs.Leading.{Leading, Outer, led, mode_led, partner_of, place_led, storers_led}
use Rattle.replica.specs.declared.leader.Beside.{Beside}
use Rattle.replica.specs.declared.leader.Beside.TheVariants as beside

quiet_formed : (s : Server Entry) (from : Place) (v lb : ℕ) → AreQuiet (on_formed s from v lb)
quiet_formed s from v lb =
    by_if AreQuiet (all_of ((v == s.promised) ∷ (is_joining s.mode || is_waits s.mode) ∷ []))
    (Hearing from lb ∷ []) [] (λ some_is. (tt, tt)) (λ none_is. tt)

-- a leader that heard a Formed leads on
pub hears_leading : (me : ServerId) (mark : MarkFields) (horizon : HorizonValue) (served : ℕ)
    (duty : Task) (before : State) (l m : Leading) (plan : Form) (lb : ℕ)
    → before ≡ state.Leads l plan → Fits (place_of me) mark before → HearsFormed l m lb
    → IsLeading (place_of me) mark m (plan_of plan)
hears_leading me mark horizon served duty before l m plan lb at fits made =
    let o = outer me mark horizon served duty plan in
    leads_on me mark horizon served duty l m plan (place_led l o) 0
    (on_formed (led l o) (partner_of l.beside) l.view lb)
    (subst (λ (s : State). Fits (place_of me) mark s) at fits)
    (quiet_formed (led l o) (partner_of l.beside) l.view lb) (made o 0)

same_is : (a b : Place) → same a b ≡ true → a ≡ b
same_is Zero Zero h = refl
same_is Zero One h = cc
same_is Zero Two h = cc
same_is One Zero h = cc
same_is One One h = refl
same_is One Two h = cc
same_is Two Zero h = cc
same_is Two One h = cc
same_is Two Two h = refl

partner_led : (b : Beside) (q : Place) → partner (storers_led b q) ≡ partner_of b
partner_led beside.DataServer q = refl
partner_led beside.Witness Zero = refl
partner_led beside.Witness One = refl
partner_led beside.Witness Two = refl

-- it is its partner's Formed that is heard, where one is
same_formed : (b : Bool) (l : Leading) (o : Outer) (from : Place) (v lb : ℕ) → l.opened ≡ b
    → v ≡ l.view
    → (is_in_view (led l o) v ≡ true → all_of (heard_tests (led l o) from lb) ≡ true)
    → on_formed (led l o) (partner_of l.beside) l.view lb ≡ on_formed (led l o) from v lb
same_formed true l o from v lb opened view proper =
    let closed : (is_joining (led l o).mode || is_waits (led l o).mode) ≡ false =
    ap (λ (b : Bool). is_joining (mode_led b) || is_waits (mode_led b)) opened in
    heeds_none (led l o) (partner_of l.beside) l.view lb closed
    ∙ sym (heeds_none (led l o) from v lb closed)
same_formed false l o from v lb opened view proper =
    let active : is_active (led l o).mode ≡ true =
    ap (λ (b : Bool). is_active (mode_led b)) opened in
    let tests = each_of (heard_tests (led l o) from lb) (proper
    (all_true (is_active (led l o).mode ∷ (v == l.view) ∷ []) (active, (eq_is v l.view view, tt))))
    in
    let who : from ≡ partner_of l.beside =
    same_is from (partner (storers_led l.beside o.me)) tests.0 ∙ partner_led l.beside o.me in
    ap (λ (p : Place). on_formed (led l o) p l.view lb) (sym who)
    ∙ ap (λ (k : ℕ). on_formed (led l o) from k lb) (sym view)

led_hears : (me : ServerId) (mark : MarkFields) (horizon : HorizonValue) (served : ℕ)
    (duty : Task) (l m : Leading) (plan : Form) (items : List Entry) (clock : ℕ) (from : Place)
    (v lb : ℕ) → IsLeading (place_of me) mark l (plan_of plan)
    → IsLeading (place_of me) mark m (plan_of plan) → HearsFormed l m lb
    → let n = value me mark horizon served duty (state.Leads l plan) in
    let s = server n items in
    (is_in_view n.plain v ≡ true → all_of (heard_tests n.plain from lb) ≡ true)
    → (v == n.plain.promised) ≡ true
    → server (value me mark horizon served duty (state.Leads m plan)) items
    ≡ acts (place_of me) clock s (on_formed s from v lb)
led_hears me mark horizon served duty l m plan items clock from v lb is new made proper view =
    let o = outer me mark horizon served duty plan in
    let same = as_led me mark horizon served duty l plan items is in
    let number : v ≡ l.view =
    eqb-true v (number_of_view mark.promised) view ∙ is.mark.promised in
    let tests = subst (λ (s : Server Entry). is_in_view s v ≡ true
    → all_of (heard_tests s from lb) ≡ true) same proper in
    as_led me mark horizon served duty m plan items new ∙ made o clock
    ∙ ap (λ (q : Place). acts q clock (led l o)
    (on_formed (led l o) (partner_of l.beside) l.view lb)) is.place
    ∙ ap (acts (place_of me) clock (led l o)) (same_formed l.opened l o from v lb refl number
    tests)
    ∙ ap (λ (s : Server Entry). acts (place_of me) clock s (on_formed s from v lb)) (sym same)

pub node_hears : (me : ServerId) (mark : MarkFields) (horizon : HorizonValue) (served : ℕ)
    (duty : Task) (before : State) (n : NodeValue) (l m : Leading) (plan : Form)
    (items : List Entry) (clock : ℕ) (from : Place) (v lb : ℕ) → before ≡ state.Leads l plan
    → value me mark horizon served duty before ≡ n → Fits (place_of me) mark before
    → HearsFormed l m lb
    → (is_in_view n.plain v ≡ true → all_of (heard_tests n.plain from lb) ≡ true)
    → (v == n.plain.promised) ≡ true
    → server (value me mark horizon served duty (state.Leads m plan)) items
    ≡ acts n.me clock (server n items) (on_formed (server n items) from v lb)
node_hears me mark horizon served duty before n l m plan items clock from v lb at is fits made
    proper view =
    let now : value me mark horizon served duty (state.Leads l plan) ≡ n =
    ap (value me mark horizon served duty) (sym at) ∙ is in
    subst (λ (n : NodeValue).
    (is_in_view n.plain v ≡ true → all_of (heard_tests n.plain from lb) ≡ true)
    → (v == n.plain.promised) ≡ true
    → server (value me mark horizon served duty (state.Leads m plan)) items
    ≡ acts n.me clock (server n items) (on_formed (server n items) from v lb)) now
    (led_hears me mark horizon served duty l m plan items clock from v lb
    (subst (λ (s : State). Fits (place_of me) mark s) at fits)
    (hears_leading me mark horizon served duty before l m plan lb at fits made) made) proper view
