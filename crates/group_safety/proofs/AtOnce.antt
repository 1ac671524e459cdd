-- An acknowledgement answers at once.
use Rattle.std.proofs.Common.{◌≡◌, ℕ, ◌+◌, ◌-◌, ◌<◌, ◌≤◌, not, Bool, true, false, List, [], ◌∷◌, ◌++◌, append_assoc, append-nil, length, Option, None, Some, take, drop, refl, sym, ap, ◌∙◌, subst, arith, le_trans, nat_lt, nat_le, if◌then◌else◌}
use Rattle.std.proofs.lemmas.List.{length-drop, length-take-le}
use Rattle.file_tree.specs.Book.{Entry}
use Rattle.group_safety.specs.Facts.{BodyOk}
use Rattle.group_safety.specs.Laws.{AnswersAtOnce, Whole, answered_in, answered_one, numbers_after}
use Rattle.group_rules.specs.Limits.{is_open}
use Rattle.group_rules.specs.Misfits.{misfits, proper, told_tests}
use Rattle.group_rules.specs.Moves.{Committing, Move, Noting, Sending, acts}
use Rattle.group_rules.specs.Open.{base_tests, open_heard, open_tests, rebase, try_open}
use Rattle.group_rules.specs.Places.{Zero, One, Two, Place, all_of, get, is_s01, partner, same}
use Rattle.group_rules.specs.Replicate.{ack_tests, answers, is_in_view, on_ack}
use Rattle.group_rules.specs.State.{Ack, Beat, Demote, Group, Message, Open, Packet, Plan, Server, top}
use Rattle.group_rules.specs.Step.{Comes, list_of, numbered, rule, step_of}
use Rattle.group_safety.specs.Words.{IsActive}
use Rattle.group_rules.proofs.Tests.{all_true, by_if, eq_is, if_is, if_not, le_is, lt_is}
use Rattle.group_safety.proofs.Accepting.{same_self}
use Rattle.group_safety.proofs.Raising.{leader_not_partner}
use Rattle.group_safety.proofs.Safe.{sent_known}

not_same : (a b : Place) → (a ≡ b → ⊥) → not (same a b) ≡ true
not_same Zero Zero n = absurd (n refl)
not_same Zero One n = refl
not_same Zero Two n = refl
not_same One Zero n = refl
not_same One One n = absurd (n refl)
not_same One Two n = refl
not_same Two Zero n = refl
not_same Two One n = refl
not_same Two Two n = absurd (n refl)

in_both : (a b : List (Move Entry)) → answered_in (a ++ b) ≡ answered_in a ++ answered_in b
in_both [] b = refl
in_both (m ∷ a) b = ap (λ (l : List ℕ). answered_one m ++ l) (in_both a b) ∙ sym (rw append_assoc refl)

in_answers : (n : ℕ) (es : List Entry) → answered_in (answers n es) ≡ numbers_after n (length es)
in_answers n [] = refl
in_answers n (e ∷ es) = ap (λ (l : List ℕ). (n + 1) ∷ l) (in_answers (n + 1) es)

none_if : (b : Bool) (x : List (Move Entry)) → answered_in x ≡ [] → answered_in (if b then x else []) ≡ []
none_if b x h = by_if (λ (l : List (Move Entry)). answered_in l ≡ []) b x [] (λ _. h) (λ _. refl)

none_opens : (q : Place) (clock : ℕ) (s : Server Entry) → answered_in (try_open q clock s) ≡ []
none_opens q clock s = none_if (all_of (open_tests q s)) _ (heard (get s.heard (partner s.plan.storers)))
  where
    heard : (o : Option ℕ) → answered_in (open_heard clock s o) ≡ []
    heard None = refl
    heard (Some lb) = none_if (nat_le (s.plan.horizon + 50) clock) _
        (in_both (if is_s01 s.plan.storers then Sending Two (Demote s.accepted) ∷ [] else []) (Sending (partner s.plan.storers) (Beat s.accepted (top s) s.base) ∷ [])
        ∙ ap (λ (l : List ℕ). l ++ []) (none_if (is_s01 s.plan.storers) (Sending Two (Demote s.accepted) ∷ []) refl))

none_bases : (s : Server Entry) → answered_in (rebase s) ≡ []
none_bases s = none_if (all_of (base_tests s)) _ refl

-- an acknowledgement and what follows it
in_ack : (q : Place) (clock : ℕ) (s : Server Entry) (v t lb until : ℕ) → s.mode ≡ Open → v ≡ s.accepted → s.cp < t → t ≤ top s → s.base ≤ s.cp
    → answered_in (on_ack s v t lb until) ≡ numbers_after s.cp (t - s.cp)
in_ack q clock s v t lb until o e lt most low =
    let tests : all_of (ack_tests s v) ≡ true = all_true (ack_tests s v) (ap is_open o, (eq_is v s.accepted e, tt)) in
    let es = take (t - s.cp) (drop (s.cp - s.base) s.items) in
    let a = length-drop (s.cp - s.base) s.items in
    let size : length es ≡ t - s.cp = length-take-le (t - s.cp) (drop (s.cp - s.base) s.items) (omega arith) in
    ap answered_in (if_is (all_of (ack_tests s v)) (Noting t lb until ∷ (if nat_lt s.cp t then Committing t ∷ answers s.cp es else [])) [] tests)
    ∙ ap answered_in (if_is (nat_lt s.cp t) (Committing t ∷ answers s.cp es) [] (lt_is s.cp t lt))
    ∙ in_answers s.cp es ∙ ap (numbers_after s.cp) size

pub answers_at_once : (size : List Entry → Entry → ℕ) (g : Group Entry) → Whole g → (n : ℕ) (p : Packet Entry) → numbered g.packets n ≡ Some p → (v t lb until : ℕ) → AnswersAtOnce size g p v t lb until
answers_at_once size g w n p e v t lb until = record {
  indices = λ b up o a lt. subst (λ (m : Message Entry). answered_in (step_of size g p.to (Comes p.from m)) ≡ numbers_after (g.server p.to).cp (t - (g.server p.to).cp)) (sym b)
      (whole o (sym a) lt (subst (λ (m : Message Entry). BodyOk g.page g.joins g.committed p.from p.to m) b (sent_known g w n p e).0));
}
  where
    whole : (g.server p.to).mode ≡ Open → v ≡ (g.server p.to).accepted → (g.server p.to).cp < t → BodyOk g.page g.joins g.committed p.from p.to (Ack v t lb until)
        → answered_in (step_of size g p.to (Comes p.from (Ack v t lb until))) ≡ numbers_after (g.server p.to).cp (t - (g.server p.to).cp)
    whole o a lt b =
        let q = p.to in
        let s = g.server q in
        let clock = g.clock q in
        let fine = w.ok.server q in
        let active : IsActive s.mode = subst (λ z. IsActive z) (sym o) tt in
        let log = fine.logs.log (fine.modes.active active).0 in
        let leads = (fine.modes.leads o).0 in
        let plan = fine.modes.plan active in
        let from : p.from ≡ partner s.plan.storers = b.2 ∙ ap (λ (x : ℕ). partner (g.page x).plan.storers) a ∙ ap (λ (x : Plan). partner x.storers) (sym plan) in
        let from' : p.from ≡ partner (g.page s.accepted).plan.storers = from ∙ ap (λ (x : Plan). partner x.storers) plan in
        let other : not (same p.from q) ≡ true = not_same p.from q (λ x. leader_not_partner _ (sym leads ∙ sym x ∙ from')) in
        let most : t ≤ top s = le_trans (subst (λ (x : ℕ). t ≤ (g.page x).held_twice) a b.3) log.holds.held_twice in
        let mine : same p.from (partner s.plan.storers) ≡ true = subst (λ (x : Place). same x (partner s.plan.storers) ≡ true) (sym from) (same_self (partner s.plan.storers)) in
        let told : all_of (told_tests s p.from t lb) ≡ true = all_true (told_tests s p.from t lb) (mine, (le_is t (top s) most, (le_is lb t b.5, tt))) in
        let fits : (if is_in_view s v then all_of (told_tests s p.from t lb) else true) ≡ true = by_if (λ (x : Bool). x ≡ true) (is_in_view s v) (all_of (told_tests s p.from t lb)) true (λ _. told) (λ _. refl) in
        let proper' : misfits q s p.from (Ack v t lb until) ≡ false = ap not (all_true (not (same p.from q) ∷ proper q s p.from (Ack v t lb until)) (other, (fits, tt))) in
        let acked = on_ack s v t lb until in
        let said : answered_in acked ≡ numbers_after s.cp (t - s.cp) = in_ack q clock s v t lb until o a lt most log.base_cp in
        let ruled : List (Move Entry) = acked ++ try_open q clock (acts q clock s acked) in
        let rule_is : rule size q clock (list_of g q) s (Comes p.from (Ack v t lb until)) ≡ ruled = if_not (misfits q s p.from (Ack v t lb until)) [] ruled proper' in
        let answered : answered_in ruled ≡ numbers_after s.cp (t - s.cp) = in_both acked (try_open q clock (acts q clock s acked)) ∙ ap (λ (l : List ℕ). answered_in acked ++ l) (none_opens q clock (acts q clock s acked)) ∙ append-nil (answered_in acked) ∙ said in
        let ms = rule size q clock (list_of g q) s (Comes p.from (Ack v t lb until)) in
        in_both ms (rebase (acts q clock s ms))
        ∙ ap (λ (l : List ℕ). answered_in ms ++ l) (none_bases (acts q clock s ms))
        ∙ append-nil (answered_in ms)
        ∙ ap answered_in rule_is ∙ answered
