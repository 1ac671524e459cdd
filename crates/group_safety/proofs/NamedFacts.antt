-- The named facts follow from what every step keeps.
use Rattle.std.proofs.Common.{◌≡◌, ℕ, ◌+◌, ◌≤◌, true, List, [], ◌∷◌, length, subst, le_trans, lt_of_lt_of_le, ⊎_elim}
use Rattle.file_tree.specs.Book.{Entry}
use Rattle.group_safety.specs.Facts.{BodyOk, Ok, PacketOk}
use Rattle.group_safety.specs.Laws.{Whole}
use Rattle.group_safety.specs.NamedFacts.{AcceptedBelowPromised, CarriesEntries, CommitAgrees, CommitsAgreeWithTheBook, DemotesRightly, DemotionFollowsTwoDataServers, HeldTwiceSurvives, HoldsStart, HorizonsCoverPromises, NamedFacts, PromiseKnown, SaidTwice, StorerHoldsTheStart, StorersJoined}
use Rattle.group_rules.specs.Places.{Place}
use Rattle.group_safety.specs.Reported.{Reported}
use Rattle.group_safety.specs.Settled.{Settled}
use Rattle.group_rules.specs.State.{Ack, Beat, Demote, Event, Give, Group, JoinMade, Message, Page, top}
use Rattle.group_safety.specs.Words.{Each, Holds, In}
use Rattle.group_safety.proofs.Common.{share}
use Rattle.group_safety.proofs.Committing.{book_agrees}
use Rattle.group_safety.proofs.Grow.{each_map}

pub each_in : {X : Type 0} (P : X → Type 0) (xs : List X) (x : X) → Each P xs → In xs x → P x
each_in P [] x h i = absurd i
each_in P (y ∷ ys) x h i = ⊎_elim (λ (e : y ≡ x). subst P e h.0) (λ i. each_in P ys x h.1 i) i

carries : {E : Type 0} (page : ℕ → Page E) (joins : List JoinMade) (committed : List E) (from to : Place) (m : Message E) → BodyOk page joins committed from to m → CarriesEntries page m
carries page joins committed from to (Event v index cp base e) h = h.3
carries page joins committed from to (Give v index items) h = (h.2, h.3)
carries page joins committed from to m h = tt

agrees : {E : Type 0} (page : ℕ → Page E) (joins : List JoinMade) (committed : List E) (from to : Place) (m : Message E) → BodyOk page joins committed from to m → CommitAgrees page committed m
agrees page joins committed from to (Event v index cp base e) h = h.4
agrees page joins committed from to (Beat v cp base) h = h.2
agrees page joins committed from to m h = tt

promises : {E : Type 0} (page : ℕ → Page E) (joins : List JoinMade) (committed : List E) (from to : Place) (m : Message E) → BodyOk page joins committed from to m → PromiseKnown page m
promises page joins committed from to (Ack v t lb until) h = h.4
promises page joins committed from to m h = tt

demotes : {E : Type 0} (page : ℕ → Page E) (joins : List JoinMade) (committed : List E) (from to : Place) (m : Message E) → BodyOk page joins committed from to m → DemotesRightly page m
demotes page joins committed from to (Demote v) h = (h.1, h.2)
demotes page joins committed from to m h = tt

accepted_below_promised : {E : Type 0} (g : Group E) → Ok g → AcceptedBelowPromised g
accepted_below_promised g ok = record {
  order = λ q. (ok.server q).views.order;
  formed = λ q. (ok.server q).views.formed;
  active = λ q a. ((ok.server q).modes.active a).1;
  storer = λ q l. ((ok.server q).logs.log l).holds.storer;
  lower = λ w p f. (ok.page w f).earlier p;
}

storers_joined : {E : Type 0} (g : Group E) → Ok g → Reported g → StorersJoined g
storers_joined g ok told = record {
  joined = λ w p f. (ok.page w f).storers_joined p;
  promised = λ w f q i. (ok.server q).views.promises w f i;
  shared = λ v w. share (g.page v).plan.storers (g.page w).plan.storers;
  reports = λ q. (told.each q).log;
  reports_saved = λ q. (told.each q).saved;
  reports_now = λ q. (ok.server q).tells;
  opened = λ v f o. ((ok.page v f).opened_leader o, (ok.page v f).opened_partner o);
  accepted = λ v f q i. (ok.server q).views.into v f i;
  later = λ v f j i l into. (ok.join j i).latest v f l into;
}

held_twice_survives : {E : Type 0} (g : Group E) → Ok g → (v n : ℕ) → (g.page v).formed ≡ true → n ≤ (g.page v).held_twice → HeldTwiceSurvives g v n
held_twice_survives g ok v n f le = record {
  server = λ q l e. le_trans le (subst (λ (v : ℕ). (g.page v).held_twice ≤ top (g.server q)) e ((ok.server q).logs.log l).holds.held_twice);
  saved = λ q log s r e. le_trans le (subst (λ (v : ℕ). (g.page v).held_twice ≤ log.base + length log.items) e ((ok.server q).logs.saved log s r).holds.held_twice);
  join = λ j i l e. le_trans le (subst (λ (v : ℕ). (g.page v).held_twice ≤ j.report.top) e ((ok.join j i).holds l).held_twice);
  later = λ w lt f'. let p = ok.pair v w lt f f' in (le_trans le p.kept_start, λ i l. p.agree i (lt_of_lt_of_le l le));
}

said_twice_is_held : {E : Type 0} (g : Group E) → Ok g → (v n : ℕ) → SaidTwice g v n → ((g.page v).formed ≡ true) × (n ≤ (g.page v).held_twice)
said_twice_is_held g ok v n h = ⊎_elim
    (λ a.
    let b = subst (λ m. BodyOk g.page g.joins g.committed a.0.from a.0.to m) a.5 (each_in (PacketOk g.page g.joins g.committed) g.packets a.0 ok.packet a.4) in
    (b.0, le_trans a.6 b.3))
    (λ a.
    let b = subst (λ m. BodyOk g.page g.joins g.committed a.0.from a.0.to m) a.4 (each_in (PacketOk g.page g.joins g.committed) g.packets a.0 ok.packet a.3) in
    (b.0, le_trans a.5 ((ok.page v b.0).start_kept b.1)))
    h

holds_start : {E : Type 0} (p : Page E) (q : Place) (n : ℕ) → Holds p q n → HoldsStart p q n
holds_start p q n h = (h.from_start, h.all)

storer_holds_the_start : {E : Type 0} (g : Group E) → Ok g → Settled g → StorerHoldsTheStart g
storer_holds_the_start g ok settled = record {
  server = λ q l. holds_start _ q _ ((ok.server q).logs.log l).holds;
  saved = λ q log s r. holds_start _ q _ ((ok.server q).logs.saved log s r).holds;
  join = λ j i l. holds_start _ j.from _ ((ok.join j i).holds l);
  settled = λ q. (settled.server q).settled;
}

commits_agree : {E : Type 0} (g : Group E) → Ok g → Settled g → CommitsAgreeWithTheBook g
commits_agree g ok more = record {
  server = λ q l. ((ok.server q).logs.log l).sure;
  mark = λ q. (ok.server q).logs.lb_sure;
  saved = λ q log s r. ((ok.server q).logs.saved log s r).sure;
  page = λ w f. ((ok.page w f).cp_sure, (ok.page w f).base_sure);
  join = λ j i. (ok.join j i).sure;
  packet = each_map _ _ (λ p. agrees g.page g.joins g.committed p.from p.to p.body) g.packets ok.packet;
  book = ok.committed;
  twice = λ v k f a b. book_agrees g ok v k f a b;
  open' = λ q o later. (more.server q).count o later;
}

horizons_cover : {E : Type 0} (g : Group E) → Ok g → HorizonsCoverPromises g
horizons_cover g ok = record {
  packet = each_map _ _ (λ p. promises g.page g.joins g.committed p.from p.to p.body) g.packets ok.packet;
  server = λ v q. (ok.server q).promise v;
  join = λ v f j i l e. (ok.join j i).promise v f l e;
  page = λ v w l f f' i. (ok.pair v w l f f').promise i;
}

demotion_follows : {E : Type 0} (g : Group E) → Ok g → DemotionFollowsTwoDataServers g
demotion_follows g ok = record {
  packet = each_map _ _ (λ p. demotes g.page g.joins g.committed p.from p.to p.body) g.packets ok.packet;
  empty = λ q e. let a = (ok.server q).logs.empty e in (a.0, ((ok.server q).outside a.1).1);
}

pub named_facts : (g : Group Entry) → Whole g → NamedFacts g
named_facts g h = record {
  accepted_below_promised = accepted_below_promised g h.ok;
  storers_joined = storers_joined g h.ok h.reported;
  messages_carry_list_entries = each_map _ _ (λ p. carries g.page g.joins g.committed p.from p.to p.body) g.packets h.ok.packet;
  held_twice_survives = held_twice_survives g h.ok;
  said_twice_is_held = said_twice_is_held g h.ok;
  storer_holds_the_start = storer_holds_the_start g h.ok h.settled;
  commits_agree_with_the_book = commits_agree g h.ok h.settled;
  horizons_cover_promises = horizons_cover g h.ok;
  demotion_follows_two_data_servers = demotion_follows g h.ok;
}
