-- Messages and answers: moves that leave the server as it is.
use Rattle.std.proofs.Common.{◌≡◌, ◌≤◌, Bool, true, false, List, [], ◌∷◌, ◌++◌, append_assoc, append-nil, min, sym, ap, ◌∙◌, subst, inl, arith, le_of_eq, if◌then◌else◌}
use Rattle.file_tree.specs.Book.{Entry}
use Rattle.group_safety.specs.Bases.{BasesAt, BasesBody}
use Rattle.group_safety.specs.Entered.{BodyWithin}
use Rattle.group_safety.specs.Facts.{BodyOk}
use Rattle.group_rules.specs.Joining.{to_each}
use Rattle.group_rules.specs.Moves.{Move, Saying, Sending, acts, moved, moved_by}
use Rattle.group_rules.specs.Open.{and_then}
use Rattle.group_rules.specs.Places.{Zero, One, Place, S01, leader, partner}
use Rattle.group_safety.specs.Settled.{SettledAt, SettledBody}
use Rattle.group_rules.specs.State.{Beat, Group, Message, Open, Plan, Say, Server}
use Rattle.group_safety.specs.Words.{IsActive, Under}
use Rattle.group_rules.proofs.Tests.{by_if}
use Rattle.group_safety.proofs.Quiet.{say_kept}
use Rattle.group_safety.proofs.Entering.{SayMay}
use Rattle.group_safety.proofs.Moving.{Good, its, Goes, goes_done, goes_more, goes_one, goes_then, sending}
use Rattle.group_safety.proofs.Bases.{lbs_of}

-- what a message asks beside
abbrev pub BodyMay : Group Entry → Message Entry → Type 0
BodyMay g m = SettledBody g.page m × BasesBody (lbs_of g.server) g.page m × BodyWithin m

-- a message, and then the other moves
pub goes_send : (g : Group Entry) (q : Place) (s : Server Entry) (to : Place) (m : Message Entry) (ms : List (Move Entry)) → Good g q s → BodyOk g.page g.joins g.committed q to m → BodyMay g m
    → (Good (moved g q s (Sending to m)) q s → Goes (moved g q s (Sending to m)) q s ms) → Goes g q s (Sending to m ∷ ms)
goes_send g q s to m ms h b r next = goes_more g q s (Sending to m) ms h (r.0, r.1, r.2, tt)
    (sending h to m b) next

pub goes_each : (g : Group Entry) (q : Place) (s : Server Entry) (m : Message Entry) (ps : List Place) → Good g q s → ((g : Group Entry) → (to : Place) → BodyOk g.page g.joins g.committed q to m) → ((g : Group Entry) → BodyMay g m) → Goes g q s (to_each m ps)
goes_each g q s m [] h b r = goes_done h
goes_each g q s m (p ∷ ps) h b r = goes_send g q s p m (to_each m ps) h (b g p) (r g) (λ k. goes_each (moved g q s (Sending p m)) q s m ps k b r)

-- a choice of moves by a test
pub goes_if : (g : Group Entry) (q : Place) (s : Server Entry) (b : Bool) (x y : List (Move Entry)) → (b ≡ true → Goes g q s x) → (b ≡ false → Goes g q s y) → Goes g q s (if b then x else y)
goes_if g q s b x y = by_if (λ ms. Goes g q s ms) b x y

-- moves where a test holds, else none
pub goes_where : (g : Group Entry) (q : Place) (s : Server Entry) (b : Bool) (x : List (Move Entry)) → Good g q s → (b ≡ true → Goes g q s x) → Goes g q s (if b then x else [])
goes_where g q s b x h t = goes_if g q s b x [] t (λ _. goes_done h)

-- an answer, a refusal or a listing
pub says : (g : Group Entry) (q : Place) (s : Server Entry) → Good g q s → (say : Say Entry) → SayMay g.page g.committed s.accepted say → Goes g q s (Saying say ∷ [])
says g q s h say may = goes_one g q s (Saying say) h (tt, tt, may, tt)
    (say_kept g h.ok q s h.is say)

-- an active server's page
pub at_page : (g : Group Entry) (q : Place) (s : Server Entry) → Good g q s → IsActive s.mode → s.plan ≡ (g.page s.accepted).plan
at_page g q s h a = (its h).modes.plan a

-- an open leader's CP is at least its view's start
pub settled : (g : Group Entry) (q : Place) (s : Server Entry) → Good g q s → s.mode ≡ Open → (g.page s.accepted).plan.start ≤ s.cp
settled g q s h o = (subst (λ s. SettledAt g.page g.committed s) h.is (h.settled.server q)).settled (inl o)

-- what is said of a server's bases
pub its_low : {g : Group Entry} {q : Place} {s : Server Entry} → Good g q s → BasesAt (lbs_of g.server) g.page s
its_low {g = g} {q = q} h = subst (λ s. BasesAt (lbs_of g.server) g.page s) h.is (h.bases.server q)

pub own_base : (g : Group Entry) (q : Place) (s : Server Entry) → Good g q s → IsActive s.mode → Under (lbs_of g.server) s.base
own_base g q s h a = (its_low h).log ((its h).modes.active a).0

-- the partner beside server 0 is server 1
pub partner_lb : (g : Group Entry) (q : Place) (s : Server Entry) → Good g q s → q ≡ partner (g.page s.accepted).plan.storers → (g.page s.accepted).plan.storers ≡ S01 → s.lb ≤ lbs_of g.server One
partner_lb g q s h e p =
    let one : q ≡ One = e ∙ ap partner p in
    le_of_eq (ap (λ (x : Server _). x.lb) (sym h.is) ∙ ap (λ (x : Place). (g.server x).lb) one)

-- the leader beside server 1 is server 0
pub both : (g : Group Entry) (q : Place) (s : Server Entry) → Good g q s → s.mode ≡ Open → s.plan.storers ≡ S01 → Under (lbs_of g.server) (min s.lb s.told_lb)
both g q s h o p =
    let a : IsActive s.mode = subst (λ z. IsActive z) (sym o) tt in
    let zero' : q ≡ Zero = ((its h).modes.leads o).0 ∙ ap (λ (l : Plan). leader l.storers) (sym ((its h).modes.plan a)) ∙ ap leader p in
    let mine : s.lb ≡ (g.server Zero).lb = ap (λ (x : Server _). x.lb) (sym h.is) ∙ ap (λ (x : Place). (g.server x).lb) zero' in
    let low = (its_low h).acked o p in
    (omega arith, omega arith)

-- a Beat of an open leader
pub beat_goes : (g : Group Entry) (q : Place) (s : Server Entry) → Good g q s → s.mode ≡ Open → (to : Place) → Goes g q s (Sending to (Beat s.accepted s.cp s.base) ∷ [])
beat_goes g q s h o to =
    let fine = its h in
    let a : IsActive s.mode = subst (λ z. IsActive z) (sym o) tt in
    goes_send g q s to (Beat s.accepted s.cp s.base) [] h (fine.views.formed, (fine.modes.leads o).1, (fine.logs.log (fine.modes.active a).0).sure) ((fine.views.formed, settled g q s h o), own_base g q s h a, tt) goes_done

-- moves that only send, whatever comes after them
pub Steady : Place → Server Entry → List (Move Entry) → Type 0
Steady q s ms = (g : Group Entry) → Good g q s → (rest : List (Move Entry)) → ((g' : Group Entry) → Good g' q s → Goes g' q s rest) → Goes g q s (ms ++ rest)

pub steady_none : (q : Place) (s : Server Entry) → Steady q s []
unfolding Steady
steady_none q s g h rest next = next g h

pub steady_more : (q : Place) (s : Server Entry) (to : Place) (m : Message Entry) (ms : List (Move Entry)) → ((g : Group Entry) → Good g q s → BodyOk g.page g.joins g.committed q to m × BodyMay g m) → Steady q s ms → Steady q s (Sending to m ∷ ms)
unfolding Steady
steady_more q s to m ms b k g h rest next = goes_send g q s to m (ms ++ rest) h (b g h).0 (b g h).1 (λ h'. k (moved g q s (Sending to m)) h' rest next)

pub steady_say : (q : Place) (s : Server Entry) (say : Say Entry) (ms : List (Move Entry)) → ((g : Group Entry) → Good g q s → SayMay g.page g.committed s.accepted say) → Steady q s ms → Steady q s (Saying say ∷ ms)
unfolding Steady
steady_say q s say ms b k g h rest next = goes_more g q s (Saying say) (ms ++ rest) h (
  tt,
  tt,
  b g h,
  tt,
) (say_kept g h.ok q s h.is say) (λ h'. k (moved g q s (Saying say)) h' rest next)

pub steady_both : (q : Place) (s : Server Entry) (a b : List (Move Entry)) → Steady q s a → Steady q s b → Steady q s (a ++ b)
unfolding Steady
steady_both q s a b x y g h rest next = rw append_assoc (x g h (b ++ rest) (λ g' h'. y g' h' rest next))

pub steady_each : (q : Place) (s : Server Entry) (m : Message Entry) (ps : List Place) → ((g : Group Entry) → Good g q s → (to : Place) → BodyOk g.page g.joins g.committed q to m × BodyMay g m) → Steady q s (to_each m ps)
steady_each q s m [] b = steady_none q s
steady_each q s m (p ∷ ps) b = steady_more q s p m (to_each m ps) (λ g h. b g h p) (steady_each q s m ps b)

pub steady_where : (q : Place) (s : Server Entry) (b : Bool) (x : List (Move Entry)) → (b ≡ true → Steady q s x) → Steady q s (if b then x else [])
steady_where q s b x t = by_if (λ ms. Steady q s ms) b x [] t (λ _. steady_none q s)

pub steady_goes : (q : Place) (s : Server Entry) (ms : List (Move Entry)) → Steady q s ms → (g : Group Entry) → Good g q s → Goes g q s ms
unfolding Steady
steady_goes q s ms k g h = subst (λ (l : List (Move _)). Goes g q s l) (append-nil ms) (k g h [] (λ g' h'. goes_done h'))

pub steady_then : (q : Place) (s : Server Entry) (ms rest : List (Move Entry)) → Steady q s ms → (g : Group Entry) → Good g q s → ((g' : Group Entry) → Good g' q s → Goes g' q s rest) → Goes g q s (ms ++ rest)
unfolding Steady
steady_then q s ms rest k g h next = k g h rest next

-- moves, and then those that depend on what they leave
pub goes_next : (g : Group Entry) (q : Place) (s : Server Entry) (ms : List (Move Entry)) (next : Server Entry → List (Move Entry)) → Goes g q s ms
    → (Good (moved_by g q s ms) q (acts q (g.clock q) s ms) → Goes (moved_by g q s ms) q (acts q (g.clock q) s ms) (next (acts q (g.clock q) s ms))) → Goes g q s (and_then q (g.clock q) s ms next)
goes_next g q s ms next h k = goes_then q ms (next (acts q (g.clock q) s ms)) g s h k
