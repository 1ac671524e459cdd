-- Each entry of a step was asked for.
use Rattle.std.proofs.Common.{◌≡◌, ℕ, zero, suc, ◌⊎◌, List, [], ◌∷◌, ◌++◌, take, refl, sym, subst, inl, inr, ⊎_elim}
use Rattle.std.specs.Prelude.{Contains, ⊤}
use Rattle.std.specs.List.{AllByRecursion}
use Rattle.std.proofs.lemmas.List.Elements.{Contains-push}
use Rattle.harp_types.specs.declared.server.ServerId.{ServerId}
use Rattle.trace_types.specs.declared.step.Step.{Step}
use Rattle.trace_types.specs.declared.step.Step.TheVariants as step
use Rattle.trace_types.specs.declared.line.Line.TheVariants as line
use Rattle.trace_claims.specs.Trace.{Trace, steps}
use Rattle.trace_claims.proofs.Places.{steps-append}
use Rattle.file_tree.specs.Book.{Entry}
use Rattle.group_rules.specs.Moves.{Accepting, Appending, Choosing, Heeding, Move, Opening, act, moved, moved_by}
use Rattle.group_rules.specs.Places.{Place, put}
use Rattle.group_rules.specs.State.{Group, Page, Server}
use Rattle.group_rules.specs.Step.{Ask, Input}
use Rattle.group_safety.specs.Words.{In}
use Rattle.group_safety.proofs.Grow.{by_page, puts}
use Rattle.trace_laws.proofs.Standing.{AskedIn}
use Rattle.trace_laws.proofs.MoveKinds.{IsAsked, IsMild}
use Rattle.trace_laws.proofs.StepKinds.{OfEach}
use Rattle.trace_laws.proofs.Turns.{IsBegunBy, asked, came, other}

abbrev pub AskedMove : Trace → Move Entry → Type 0
AskedMove b (Appending e) = AskedIn b e
AskedMove b m = ⊤

in_take : (n : ℕ) (xs : List Entry) (e : Entry) → In (take n xs) e → In xs e
in_take zero xs e i = absurd i
in_take (suc n) [] e i = i
in_take (suc n) (x ∷ xs) e (inl same) = inl same
in_take (suc n) (x ∷ xs) e (inr i) = inr (in_take n xs e i)

in_end : (xs : List Entry) (y e : Entry) → In (xs ++ y ∷ []) e → In xs e ⊎ (y ≡ e)
in_end [] y e (inl same) = inr same
in_end [] y e (inr none) = absurd none
in_end (x ∷ xs) y e (inl same) = inl (inl same)
in_end (x ∷ xs) y e (inr rest) = ⊎_elim (λ a. inl (inr a)) (λ b. inr b) (in_end xs y e rest)

abbrev pub AllAsked : Trace → (ℕ → Page Entry) → Type 0
AllAsked b page = (v : ℕ) (e : Entry) → In (page v).list e → AskedIn b e

asked_put : (b : Trace) (page : ℕ → Page Entry) (w : ℕ) (p : Page Entry)
    → ((e : Entry) → In p.list e → AskedIn b e) → AllAsked b page → AllAsked b (put page w p)
asked_put b page w p new h v = by_page w (puts w page p) (λ v (x : Page Entry). (e : Entry)
    → In x.list e → AskedIn b e) new v (h v)

asked_moved : (b : Trace) (g : Group Entry) (q : Place) (s : Server Entry) (m : Move Entry)
    → AskedMove b m → AllAsked b g.page → AllAsked b (moved g q s m).page
asked_moved b g q s (Choosing plan from) a h = asked_put b g.page s.promised _
    (λ e i. h from e (in_take plan.start (g.page from).list e i)) h
asked_moved b g q s (Accepting plan role n) a h = asked_put b g.page s.promised _ (h s.promised) h
asked_moved b g q s (Opening lb) a h = asked_put b g.page s.accepted _ (h s.accepted) h
asked_moved b g q s (Heeding items cp base) a h = asked_put b g.page s.accepted _ (h s.accepted) h
asked_moved b g q s (Appending x) a h =
    asked_put b g.page s.accepted _ (λ e i. ⊎_elim (λ y. h s.accepted e y)
    (λ (y : x ≡ e). subst (AskedIn b) y a) (in_end (g.page s.accepted).list x e i)) h
asked_moved b g q s m a h = h

pub asked_moves : (ms : List (Move Entry)) (b : Trace) (g : Group Entry) (q : Place)
    (s : Server Entry)
    → AllByRecursion (AskedMove b) ms → AllAsked b g.page → AllAsked b (moved_by g q s ms).page
asked_moves [] b g q s a h = h
asked_moves (m ∷ ms) b g q s a h = asked_moves ms b (moved g q s m) q (act q (g.clock q) s m) a.1
    (asked_moved b g q s m a.0 h)

-- the ask that an entry comes from
pub record AsksFor (s : Step) (e : Entry) : Type 0 where
  pub server : ServerId
  pub is : s ≡ step.Ask server e.client e.number e.cred e.call

pub asks_for : (g : Group Entry) (s : Step) (q : Place) (i : Input) (e : Entry) → IsBegunBy g s q i
    → IsAsked i e → AsksFor s e
asks_for g s q i e (asked server client number cred call) is =
    let client_is : client ≡ e.client = cc in
    let number_is : number ≡ e.number = cc in
    let cred_is : cred ≡ e.cred = cc in
    let call_is : call ≡ e.call = cc in
    record { server = server; is = rw (client_is, number_is, cred_is, call_is) refl }
asks_for g s q i e (came n p at) is = absurd cc
asks_for g s q i e (other s' q' (Ask client number cred call) o d) is = absurd d
asks_for g s q i e (other s' q' d o n) is = absurd cc

-- an entry that an ask of this step became was asked for
pub asked_now : (before : Trace) (g : Group Entry) (s : Step) (q : Place) (i : Input) (e : Entry)
    → IsBegunBy g s q i → IsAsked i e → AskedIn (before ++ line.Event s ∷ []) e
asked_now before g s q i e b a =
    let ask = asks_for g s q i e b a in (
      ask.server,
      subst (λ s. Contains (steps (before ++ line.Event s ∷ []))
          (step.Ask ask.server e.client e.number e.cred e.call)) (sym ask.is)
          (subst (λ ss. Contains ss (step.Ask ask.server e.client e.number e.cred e.call))
          (sym (steps-append before
          (line.Event (step.Ask ask.server e.client e.number e.cred e.call) ∷ [])))
          (Contains-push (steps before) (step.Ask ask.server e.client e.number e.cred e.call))),
    )

abbrev pub with_event : Trace → Step → Trace
with_event before s = before ++ line.Event s ∷ []

pub kind_asked : (before : Trace) (g : Group Entry) (s : Step) (q : Place) (i : Input)
    → IsBegunBy g s q i → OfEach (g.server q) i (AskedMove (with_event before s))
kind_asked before g s q i b = record {
  quiet = quiet_move;
  accept = λ plan q n. tt;
  heed = λ items cp base. tt;
  append = λ e a. asked_now before g s q i e b a;
  read = λ n e. tt;
  answer = λ n e. tt;
  note = λ t lb until. tt;
  commit = λ t. tt;
}
  where
    quiet_move : (m : Move Entry) → IsMild m → AskedMove (with_event before s) m
    quiet_move (Appending e) h = absurd h
    quiet_move m h = tt
