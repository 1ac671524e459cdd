-- What a group within its bounds shows of its messages and its servers fits.
use Rattle.std.proofs.Common.{◌≡◌, ℕ, ◌+◌, ◌-◌, ◌/◌, ◌<◌, ◌≤◌, ◌^◌, true, List, length, Some, refl, sym, ap, subst, arith}
use Rattle.std.proofs.lemmas.Option.{slice_get_within}
use Rattle.harp_types.specs.Server.{number_of}
use Rattle.file_tree.specs.Book.{Entry}
use Rattle.group_rules.specs.Limits.{room}
use Rattle.group_rules.specs.Names.{id_of, view_of}
use Rattle.group_rules.specs.Places.{Zero, Pair, Place, S01, S02, S12, coordinator, leader, partner}
use Rattle.group_rules.specs.Shown.{state_of}
use Rattle.group_rules.specs.State.{Ack, Beat, Demote, Event, Fetch, Form, Formed, Give, Group, Invite, Join, JoinMade, Message, Packet, Plan, Server}
use Rattle.group_safety.specs.Bases.{BasesBody}
use Rattle.group_safety.specs.Facts.{BodyOk}
use Rattle.group_safety.specs.Laws.{Whole}
use Rattle.group_trace.specs.Shown.{message_shown}
use Rattle.trace_text.specs.Fits.{IsCount, MessageFits, StateFits, ViewFits}
use Rattle.accept_laws.specs.Within.{BodyIn, IsWithin}
use Rattle.accept_laws.proofs.Lists.{each_here}
use Rattle.accept_laws.proofs.Moved.{lb_in, numbers_in}

-- a count of at most a million, and a moment within 10^15 milliseconds
pub record AreSmall (n late : ℕ) : Type 0 where
  pub count : n ≤ 1000000
  pub moment : late ≤ 10 ^ 15

thirds : (a b n : ℕ) → a ≤ b → b / 3 ≤ n → a / 3 ≤ n
thirds a b n l k = omega (arith, l, k)

storers_fit : (p : Pair) → number_of (id_of (leader p)) < number_of (id_of (partner p))
storers_fit S01 = omega arith
storers_fit S02 = omega arith
storers_fit S12 = omega arith

few_given : (k : ℕ) → k ≤ room → k < 2 ^ 16
unfolding room
few_given k l = omega (arith, l)

module _ (n late : ℕ) (small : AreSmall n late) (g : Group Entry) (h : Whole g)
    (w : IsWithin n late g) where
  counted : (k : ℕ) → k ≤ n + 1 → IsCount k
  counted k l = let most = small.count in omega (arith, l, most)

  dated : (k : ℕ) → k ≤ late + 100000 → IsCount k
  dated k l = let most = small.moment in omega (arith, l, most)

  view_fits : (v : ℕ) → v / 3 ≤ n → ViewFits (view_of v)
  view_fits v l = counted (v / 3) (omega (arith, l))

  promised_fits : (v : ℕ) (q : Place) → v ≤ (g.server q).promised → ViewFits (view_of v)
  promised_fits v q l =
      view_fits v (thirds v (g.server q).promised n l (w.server q).count)

  formed_fits : (v : ℕ) → (g.page v).formed ≡ true → ViewFits (view_of v)
  formed_fits v f =
      promised_fits v (coordinator v) ((h.ok.server (coordinator v)).views.own v f refl)

  -- an index of a list
  listed : (v k : ℕ) → k ≤ length (g.page v).list → IsCount k
  listed v k l = let few = (w.page v).few in counted k (omega (arith, l, few))

  lb_fits : (q : Place) (k : ℕ) → k ≤ (g.server q).lb → IsCount k
  lb_fits q k l =
      let low = lb_in n g q (g.server q) (h.ok.server q)
      (w.page (g.server q).accepted).few in
      counted k (omega (arith, l, low))

  pub message_fits : (from to : Place) (m : Message Entry)
      → BodyOk g.page g.joins g.committed from to m
      → BasesBody (λ x. (g.server x).lb) g.page m → BodyIn n m → MessageFits (message_shown m)
  message_fits from to (Invite v) ok base b = view_fits v b
  message_fits from to (Join v t) ok base b =
      let j : JoinMade = record { from = from; view = v; report = t } in
      let joined = (h.ok.server from).views.joined j ok refl in
      let accepted = (h.ok.join j ok).formed in
      let r = w.join j ok in
      let b' = r.base in
      let l = r.lb in
      let c = r.cp in
      let t' = r.top in (
        promised_fits v from joined,
        formed_fits t.accepted accepted,
        counted t.base (omega (arith, b')),
        counted t.lb (omega (arith, l)),
        counted t.cp (omega (arith, c)),
        counted t.top (omega (arith, t')),
        dated t.horizon r.horizon,
      )
  message_fits from to (Form v plan) ok base b =
      let p = h.ok.page v ok.0 in
      subst (λ (x : Plan). MessageFits (message_shown (Form v x))) ok.1 (
        formed_fits v ok.0,
        storers_fit (g.page v).plan.storers,
        listed v (g.page v).plan.base p.base_sure.within,
        listed v (g.page v).plan.cp p.cp_sure.within,
        listed v (g.page v).plan.start p.start_within,
        dated (g.page v).plan.horizon (w.page v).horizon,
      )
  message_fits from to (Fetch v index) ok base b = (formed_fits v ok.0, counted index b)
  message_fits from to (Give v index items) ok base b =
      let start = (h.ok.page v ok.0).start_within in
      let few = (w.page v).few in
      let end = ok.3 in
      let some = b.0 in (
        formed_fits v ok.0,
        counted index (omega (arith, start, few, end, some)),
        b.0,
        few_given (length items) b.1,
      )
  message_fits from to (Formed v lb) ok base b =
      (formed_fits v ok.0, counted lb (omega (arith, b)))
  message_fits from to (Event v index cp base e) ok bases b =
      let in_list = slice_get_within (g.page v).list (index - 1) e ok.3 in
      let fits = each_here _ (g.page v).list (index - 1) e ok.3 (w.page v).entries in
      let positive = ok.2 in (
        formed_fits v ok.0,
        omega (arith, positive),
        listed v index (omega (arith, in_list)),
        listed v cp ok.4.within,
        lb_fits Zero base bases.0,
        fits.asker.0,
        fits.asker.1,
      )
  message_fits from to (Beat v cp base) ok bases b =
      (formed_fits v ok.0, listed v cp ok.2.within, lb_fits Zero base bases.0)
  message_fits from to (Ack v top lb until) ok base b =
      let q = partner (g.page v).plan.storers in
      let kept = (h.ok.page v ok.0).kept_within in
      let most = ok.3 in
      let low = ok.5 in
      let until_page = ok.4 in
      let promised = ((h.ok.server q).promise v ok.0 refl).1 in
      let longest = (h.within.server q).longest.1 in
      let clock = w.clock q in (
        formed_fits v ok.0,
        listed v top (omega (arith, kept, most)),
        listed v lb (omega (arith, kept, most, low)),
        dated until (omega (arith, until_page, promised, longest, clock)),
      )
  message_fits from to (Demote v) ok base b = formed_fits v ok.0

  pub state_fits : (q : Place) → StateFits (state_of (g.server q))
  state_fits q =
      let s = g.server q in
      let numbers = numbers_in n g q s (h.ok.server q) (w.page s.accepted).few in
      let a = numbers.base in
      let b = numbers.lb in
      let c = numbers.ap in
      let d = numbers.cp in
      let e = numbers.top in
      record {
        promised = view_fits s.promised (w.server q).count;
        accepted = formed_fits s.accepted (h.ok.server q).views.formed;
        base = counted _ (omega (arith, a));
        lb = counted _ (omega (arith, b));
        ap = counted _ (omega (arith, c));
        cp = counted _ (omega (arith, d));
        top = counted _ (omega (arith, e));
      }
