-- The moves keep what joins reported.
use Rattle.std.proofs.Common.{◌≡◌, ℕ, ◌+◌, ◌≤◌, ◌⊎◌, ◌&&◌, Bool, true, false, List, ◌∷◌, length, Option, None, Some, refl, sym, ap, ◌∙◌, subst, inl, inr, arith, le_refl, le_trans, le_of_eq, true≢false, ⊎_elim, nat_lt, if◌then◌else◌}
use Rattle.std.specs.Prelude.{⊤}
use Rattle.std.proofs.lemmas.Bool.{cases_Bool}
use Rattle.group_rules.specs.Effects.{NewLog, booted, demoted_by, down, empty_log, lengthened, joined_server, load_tests, loaded, lost_log, report_of, resting, saving}
use Rattle.group_rules.specs.Limits.{by_held, can_have, is_outside}
use Rattle.group_rules.specs.Moves.{Accepting, Appending, Applying, Basing, Booting, Committing, Demoting, Falling, Flushing, Heeding, Joining, Move, Noting, Opening, Saving, act, moved}
use Rattle.group_rules.specs.Places.{Two, Place, all_of, at, is_p2}
use Rattle.group_rules.specs.State.{Duty, Empty, Group, Held, JoinMade, Log, Lost, Outside, Role, Saved, Server, mark_of, top}
use Rattle.group_rules.proofs.Tests.{all_true, by_if, each_of, le_is, right}
use Rattle.group_safety.specs.Entered.{ServerWithin}
use Rattle.group_safety.specs.Facts.{Ok}
use Rattle.group_safety.specs.Reported.{JoinsReport, Reported, ReportedAt, Reports}
use Rattle.group_safety.specs.Words.{In, IsActive}
use Rattle.group_safety.proofs.Common.{each_at, each_other}
use Rattle.group_safety.proofs.Modes.{p2_is}
use Rattle.group_safety.proofs.Quiet.{Fine, fine, inside_is, outside_is}

-- what each move asks beside
abbrev pub ReportedMay : {E : Type 0} → Place → Server E → Move E → Type 0
ReportedMay q s (Joining v duty) = s.up ≡ true
ReportedMay q s (Accepting plan role n) = (can_have q role ≡ true) × (q ≡ Two → n.lb ≤ n.base)
ReportedMay q s (Opening lb) = IsActive s.mode
ReportedMay q s (Heeding items cp base) = IsActive s.mode
ReportedMay q s (Appending e) = IsActive s.mode
ReportedMay q s (Noting top lb until) = IsActive s.mode
ReportedMay q s (Committing n) = IsActive s.mode
ReportedMay q s (Basing n) = IsActive s.mode × (s.base ≤ n)
ReportedMay q s (Applying n) = IsActive s.mode
ReportedMay q s Flushing = IsActive s.mode × (q ≡ Two → ⊥)
ReportedMay q s m = ⊤

-- ---- joins

its_report : {E : Type 0} (s : Server E) → s.held ≡ Log
    → Reports (report_of s) s.accepted s.base s.lb s.cp (top s)
its_report s l = record {
  held = l;
  accepted = refl;
  base = ap (λ h. by_held h s.base s.lb) l;
  lb = le_of_eq (ap (λ h. by_held h s.lb s.lb) l);
  cp = ap (λ h. by_held h s.cp s.lb) l;
  top = ap (λ h. by_held h (s.base + length s.items) s.lb) l;
}

-- one join more, of q or of another
own_join : (joins : List JoinMade) (made : JoinMade) (q : Place) (a b lb c t : ℕ)
    → Reports made.report a b lb c t → JoinsReport joins q a b lb c t
    → JoinsReport (made ∷ joins) q a b lb c t
own_join joins made q a b lb c t new old j i f above = ⊎_elim
    (λ (y : made ≡ j). subst (λ (j : JoinMade). Reports j.report a b lb c t) y new)
    (λ (i : In joins j). old j i f above) i

other_join : (joins : List JoinMade) (made : JoinMade) (q : Place) (a b lb c t : ℕ)
    → (made.from ≡ q → ⊥) → JoinsReport joins q a b lb c t
    → JoinsReport (made ∷ joins) q a b lb c t
other_join joins made q a b lb c t ne old j i f above = ⊎_elim
    (λ (y : made ≡ j). absurd (ne (ap (λ (j : JoinMade). j.from) y ∙ f)))
    (λ (i : In joins j). old j i f above) i

other_at : {E : Type 0} (joins : List JoinMade) (made : JoinMade) (q : Place) (s : Server E)
    → (made.from ≡ q → ⊥)
    → ReportedAt joins q s → ReportedAt (made ∷ joins) q s
other_at joins made q s ne h = record {
  log = λ l. other_join joins made q s.accepted s.base s.lb s.cp (top s) ne (h.log l);
  saved = λ v e r. other_join joins made q s.accepted v.base s.lb v.cp
      (v.base + length v.items) ne (h.saved v e r);
  same = h.same;
  none = h.none;
  role = h.role;
  witness = h.witness;
  witness_saved = h.witness_saved;
}

held_or : (h : Held) → (h ≡ Log) ⊎ (h ≡ Log → ⊥)
held_or Log = inl refl
held_or Lost = inr (λ e. cc)
held_or Empty = inr (λ e. cc)

join_at : {E : Type 0} (joins : List JoinMade) (q : Place) (s : Server E) (v : ℕ) (duty : Duty)
    → s.up ≡ true
    → ReportedAt joins q s
    → ReportedAt (record { from = q; view = v; report = report_of s } ∷ joins) q
    (joined_server s v duty)
join_at {E = E} joins q s v duty up h = record {
  log = λ l. own_join joins made q s.accepted s.base s.lb s.cp (top s) (its_report s l) (h.log l);
  saved = λ u e r. own_join joins made q s.accepted u.base s.lb u.cp (u.base + length u.items)
      (same u e r) (h.saved u e r);
  same = h.same;
  none = h.none;
  role = h.role;
  witness = h.witness;
  witness_saved = h.witness_saved;
}
  where
    made : JoinMade
    made = record { from = q; view = v; report = report_of s }

    same : (u : Saved E) → s.saved ≡ Some u → (s.role ≡ Outside → ⊥)
        → Reports (report_of s) s.accepted u.base s.lb u.cp (u.base + length u.items)
    same u e r = ⊎_elim
        (λ (l : s.held ≡ Log).
        let k = h.same l u e in
        let own = its_report s l in
        record {
          held = own.held;
          accepted = own.accepted;
          base = own.base ∙ k.0;
          lb = own.lb;
          cp = own.cp ∙ k.1;
          top = own.top ∙ ap (λ b. b + length s.items) k.0
              ∙ ap (λ (xs : List E). u.base + length xs) k.2;
        })
        (λ (n : s.held ≡ Log → ⊥). absurd (r (h.none up n u e)))
        (held_or s.held)

-- ---- moves of one server

-- a server that is in its promised view made no join to a higher one, and its mark has no saved
-- log
in_view : {E : Type 0} (joins : List JoinMade) (q : Place) (s : Server E)
    → ((j : JoinMade) → In joins j → j.from ≡ q → j.view ≤ s.promised) → s.promised ≡ s.accepted
    → s.held ≡ Log
    → s.saved ≡ None → ((s.role ≡ Outside → ⊥) → can_have q s.role ≡ true)
    → (q ≡ Two → s.lb ≤ s.base)
    → ReportedAt joins q s
in_view joins q s joined same held saved role witness = record {
  log = λ l j i f above. let low = joined j i f in absurd (omega arith);
  saved = λ v e. let x : None ≡ Some v = sym saved ∙ e in cc;
  same = λ l v e. let x : None ≡ Some v = sym saved ∙ e in cc;
  none = λ up n. absurd (n held);
  role = role;
  witness = λ two l. witness two;
  witness_saved = λ two v e. let x : None ≡ Some v = sym saved ∙ e in cc;
}

-- what an active server may change
active_at : {E : Type 0} (g : Group E) (q : Place) (s s' : Server E) → Fine g q s
    → ReportedAt g.joins q s
    → IsActive s.mode → s'.promised ≡ s.promised → s'.accepted ≡ s.accepted → s'.held ≡ s.held
    → s'.saved ≡ s.saved
    → s'.role ≡ s.role → (q ≡ Two → s.lb ≤ s.base → s'.lb ≤ s'.base) → ReportedAt g.joins q s'
active_at g q s s' f h a promised accepted held saved role witness =
    let m = f.modes.active a in
    in_view g.joins q s' (λ j i e. subst (λ n. j.view ≤ n) (sym promised) (f.views.joined j i e))
    (promised ∙ m.1 ∙ sym accepted) (held ∙ m.0) (saved ∙ m.2)
    (λ r. subst (λ x. can_have q x ≡ true) (sym role) (h.role (λ e. r (role ∙ e))))
    (λ two. witness two (h.witness two m.0))

-- ---- a server that falls and boots

-- a server that is down has the marks of before
down_at : {E : Type 0} (joins : List JoinMade) (q : Place) (s : Server E) → ReportedAt joins q s
    → ReportedAt joins q (down (mark_of s))
down_at joins q s h = record {
  log = λ l. cc;
  saved = h.saved;
  same = λ l. cc;
  none = λ up. cc;
  role = h.role;
  witness = λ two l. cc;
  witness_saved = h.witness_saved;
}

saving_at : {E : Type 0} (joins : List JoinMade) (q : Place) (s : Server E)
    → (s.held ≡ Log → s.lb ≤ s.ap)
    → (o : Option (Saved E)) → s.saved ≡ o → ReportedAt joins q s
    → ReportedAt joins q (down (mark_of (saving q s o)))
saving_at joins q s order (Some v) e h = down_at joins q s h
saving_at {E = E} joins q s order None e h = by_held_at s.held refl
  where
    saved : s.held ≡ Log → ReportedAt joins q (down (mark_of (record s {
      lb = if is_p2 q then s.lb else s.ap;
      saved = Some (record { base = s.base; cp = s.cp; items = s.items });
    })))
    saved l = record {
      log = λ l. cc;
      saved = λ v x r. subst (λ (v : Saved E). JoinsReport joins q s.accepted v.base lb v.cp
          (v.base + length v.items))
          (its v x) (λ j i f above. let t = h.log l j i f above in record {
            held = t.held;
            accepted = t.accepted;
            base = t.base;
            lb = le_trans t.lb raised;
            cp = t.cp;
            top = t.top;
          });
      same = λ l. cc;
      none = λ up. cc;
      role = h.role;
      witness = λ two l. cc;
      witness_saved = λ two v x r. subst (λ (v : Saved E). lb ≤ v.base) (its v x) (low two);
    }
      where
        lb : ℕ
        lb = if is_p2 q then s.lb else s.ap

        raised : s.lb ≤ lb
        raised = by_if (λ n. s.lb ≤ n) (is_p2 q) s.lb s.ap (λ _. le_refl _) (λ _. order l)

        low : q ≡ Two → lb ≤ s.base
        low two = by_if (λ n. n ≤ s.base) (is_p2 q) s.lb s.ap (λ _. h.witness two l)
            (λ f. absurd (true≢false (ap is_p2 (sym two) ∙ f)))

        its : (v : Saved E) → Some (record { base = s.base; cp = s.cp; items = s.items }) ≡ Some v
            → record { base = s.base; cp = s.cp; items = s.items } ≡ v
        its v x = cc

    by_held_at : (x : Held) → s.held ≡ x → ReportedAt joins q (down (mark_of (saving q s None)))
    by_held_at Log l = rw l (saved l)
    by_held_at Lost l = rw l (down_at joins q s h)
    by_held_at Empty l = rw l (down_at joins q s h)

-- a mark whose role isn't outside loads its saved log
loads : {E : Type 0} (g : Group E) (q : Place) (s : Server E) → Fine g q s → ServerWithin s
    → ReportedAt g.joins q s
    → (v : Saved E) → s.saved ≡ Some v → (s.role ≡ Outside → ⊥)
    → all_of (can_have q s.role ∷ load_tests s.lb v) ≡ true
loads g q s f w h v e r =
    let order = f.logs.saved_order v e in
    all_true (can_have q s.role ∷ load_tests s.lb v) (
      h.role r,
      (
        le_is _ _ order.0,
        (
          le_is _ _ order.1,
          (le_is _ _ (f.logs.saved v e r).cp_top, (le_is _ _ (w.saved v e), tt)),
        ),
      ),
    )

outside_or : (r : Role) → (r ≡ Outside) ⊎ (r ≡ Outside → ⊥)
outside_or r = ⊎_elim (λ (t : is_outside r ≡ true). inl (outside_is r t))
    (λ (f : is_outside r ≡ false). inr (λ e. true≢false (ap is_outside (sym e) ∙ f)))
    (cases_Bool (is_outside r))

-- a boot without a log
bare_at : {E : Type 0} (joins : List JoinMade) (q : Place) (clock d : ℕ) (s : Server E)
    (held : Held) (n : NewLog E)
    → (held ≡ Log → ⊥) → n.lb ≡ s.lb → ((v : Saved E) → s.saved ≡ Some v → s.role ≡ Outside)
    → ReportedAt joins q s
    → ReportedAt joins q (resting clock d (lengthened d (mark_of s)) held n)
bare_at joins q clock d s held n bare lb out h = record {
  log = λ l. absurd (bare l);
  saved = λ v e r. absurd (r (out v e));
  same = λ l. absurd (bare l);
  none = λ up l v e. out v e;
  role = h.role;
  witness = λ two l. absurd (bare l);
  witness_saved = λ two v e r. absurd (r (out v e));
}

boot_at : {E : Type 0} (g : Group E) (q : Place) (clock d : ℕ) (s : Server E) → Fine g q s
    → ServerWithin s
    → ReportedAt g.joins q s → ReportedAt g.joins q (booted q clock d (mark_of s))
boot_at {E = E} g q clock d s f w h = by_if (λ (x : Server E). ReportedAt g.joins q x)
    (is_p2 q && is_outside s.role) _ _
    (λ t. bare_at g.joins q clock d s Empty (empty_log s.lb) (λ e. cc) refl
    (λ v e. outside_is s.role (right (is_p2 q) (is_outside s.role) t)) h)
    (λ _. from s.saved refl)
  where
    from : (o : Option (Saved E)) → s.saved ≡ o → ReportedAt g.joins q
        (loaded q clock d (lengthened d (mark_of s)) o)
    from None e = bare_at g.joins q clock d s Lost (lost_log s.lb) (λ e. cc) refl
        (λ v x. let y : None ≡ Some v = sym e ∙ x in cc) h
    from (Some v) e = by_if (λ (x : Server E). ReportedAt g.joins q x)
        (all_of (can_have q s.role ∷ load_tests s.lb v)) _ _
        (λ t.
        let r = inside_is q s.role (each_of (can_have q s.role ∷ load_tests s.lb v) t).0 in
        record {
          log = λ l. reports r;
          saved = λ u x _. subst (λ (u : Saved E).
              JoinsReport g.joins q s.accepted u.base lb u.cp (u.base + length u.items))
              (its u x) (reports r);
          same = λ l u x. subst (λ (u : Saved E). (v.base ≡ u.base) × (v.cp ≡ u.cp)
              × (v.items ≡ u.items)) (its u x)
              (refl, refl, refl);
          none = λ up n. absurd (n refl);
          role = h.role;
          witness = λ two l. low two;
          witness_saved = λ two u x _. subst (λ (u : Saved E). lb ≤ u.base) (its u x) (low two);
        })
        (λ n. bare_at g.joins q clock d s Lost (lost_log s.lb) (λ e. cc) refl
        (λ u x. ⊎_elim (λ (o : s.role ≡ Outside). o)
        (λ (r : s.role ≡ Outside → ⊥). absurd (true≢false (sym (loads g q s f w h v e r) ∙ n)))
        (outside_or s.role)) h)
      where
        lb : ℕ
        lb = if is_p2 q then v.base else s.lb

        its : (u : Saved E) → s.saved ≡ Some u → v ≡ u
        its u x = let y : Some v ≡ Some u = sym e ∙ x in cc

        low : q ≡ Two → lb ≤ v.base
        low two = by_if (λ n. n ≤ v.base) (is_p2 q) v.base s.lb (λ _. le_refl _)
            (λ f. absurd (true≢false (ap is_p2 (sym two) ∙ f)))

        reports : (s.role ≡ Outside → ⊥) → JoinsReport g.joins q s.accepted v.base lb v.cp
            (v.base + length v.items)
        reports r j i f above =
            let t = h.saved v e r j i f above in
            record {
              held = t.held;
              accepted = t.accepted;
              base = t.base;
              lb = by_if (λ n. j.report.lb ≤ n) (is_p2 q) v.base s.lb
                  (λ p. le_trans t.lb (h.witness_saved (p2_is q p) v e r)) (λ _. t.lb);
              cp = t.cp;
              top = t.top;
            }

demote_at : {E : Type 0} (joins : List JoinMade) (q : Place) (s : Server E) (v : ℕ) (b : Bool)
    → ReportedAt joins q (demoted_by b s v)
demote_at joins q s v true = record {
  log = λ l. cc;
  saved = λ u e. cc;
  same = λ l. cc;
  none = λ up n u e. refl;
  role = λ r. absurd (r refl);
  witness = λ two l. cc;
  witness_saved = λ two u e. cc;
}
demote_at joins q s v false = record {
  log = λ l. cc;
  saved = λ u e. cc;
  same = λ l. cc;
  none = λ up n u e. refl;
  role = λ r. absurd (r refl);
  witness = λ two l. cc;
  witness_saved = λ two u e. cc;
}

-- ---- the moves

-- one server is another, and the joins stay
one_at : {E : Type 0} (g g' : Group E) (q : Place) (s' : Server E) → g'.joins ≡ g.joins
    → Reported g
    → g'.server ≡ at g.server q s' → ReportedAt g.joins q s' → Reported g'
one_at g g' q s' same h is new = record {
  each = λ x. subst (λ js. ReportedAt js x (g'.server x)) (sym same)
      (subst (λ (f : Place → Server _). ReportedAt g.joins x (f x)) (sym is)
      (each_at (λ x s. ReportedAt g.joins x s) g.server q s' h.each new x));
}

pub reported_moved : {E : Type 0} (g : Group E) → Ok g → Reported g → (q : Place) (s : Server E)
    → g.server q ≡ s
    → ServerWithin s → (m : Move E) → ReportedMay q s m → Reported (moved g q s m)
reported_moved {E = E} g ok h q s e w m may = by m may
  where
    f : Fine g q s
    f = fine g ok q s e

    old : ReportedAt g.joins q s
    old = subst (λ (s : Server E). ReportedAt g.joins q s) e (h.each q)

    -- the joins stay
    one : (m : Move E) → (moved g q s m).joins ≡ g.joins
        → ReportedAt g.joins q (act q (g.clock q) s m)
        → Reported (moved g q s m)
    one m same new = one_at g (moved g q s m) q (act q (g.clock q) s m) same h refl new

    -- the log and the mark stay
    alike : (s' : Server E) → s'.up ≡ s.up → s'.accepted ≡ s.accepted → s'.role ≡ s.role
        → s'.lb ≡ s.lb
        → s'.saved ≡ s.saved → s'.held ≡ s.held → s'.base ≡ s.base → s'.cp ≡ s.cp
        → s'.items ≡ s.items
        → ReportedAt g.joins q s'
    alike s' up a r lb sv hl b c i = record {
      log = λ l. rw (a, b, lb, c, i) (old.log (sym hl ∙ l));
      saved = λ v x n. rw (a, lb) (old.saved v (sym sv ∙ x) (λ o. n (r ∙ o)));
      same = λ l v x. rw (b, c, i) (old.same (sym hl ∙ l) v (sym sv ∙ x));
      none = λ u n v x. r ∙ old.none (sym up ∙ u) (λ l. n (hl ∙ l)) v (sym sv ∙ x);
      role = λ n. rw r (old.role (λ o. n (r ∙ o)));
      witness = λ two l. rw (lb, b) (old.witness two (sym hl ∙ l));
      witness_saved = λ two v x n. rw lb (old.witness_saved two v (sym sv ∙ x) (λ o. n (r ∙ o)));
    }

    by : (m : Move E) → ReportedMay q s m → Reported (moved g q s m)
    by (Joining v duty) may = record {
      each = each_other (λ x z. ReportedAt (record {
        from = q;
        view = v;
        report = report_of s;
      } ∷ g.joins) x z) g.server q _
          (λ x ne. other_at g.joins _ x (g.server x) (λ same. ne (sym same)) (h.each x))
          (join_at g.joins q s v duty may old);
    }
    by (Accepting plan role n) may = one (Accepting plan role n) refl
        (in_view g.joins q _ f.views.joined refl refl refl (λ r. may.0) may.1)
    by (Opening lb) may = one (Opening lb) refl (active_at g q s _ f old may refl refl refl refl
        refl (λ two l. l))
    by (Heeding items cp base) may = one (Heeding items cp base) refl
        (active_at g q s _ f old may refl refl refl refl refl (λ two l. omega arith))
    by (Appending x) may = one (Appending x) refl
        (active_at g q s _ f old may refl refl refl refl refl (λ two l. l))
    by (Noting t lb u) may = one (Noting t lb u) refl
        (active_at g q s _ f old may refl refl refl refl refl (λ two l. l))
    by (Committing n) may = one (Committing n) refl
        (active_at g q s _ f old may refl refl refl refl refl (λ two l. l))
    by (Basing n) may = one (Basing n) refl
        (active_at g q s _ f old may.0 refl refl refl refl refl
        (λ two l. let a = may.1 in omega arith))
    by (Applying n) may = one (Applying n) refl (active_at g q s _ f old may refl refl refl refl
        refl (λ two l. l))
    by Flushing may = one Flushing refl
        (active_at g q s _ f old may.0 refl refl refl refl refl (λ two l. absurd (may.1 two)))
    by (Demoting v) may = one (Demoting v) refl (demote_at g.joins q s v (nat_lt v s.promised))
    by Saving may = one Saving refl (saving_at g.joins q s
        (λ l. (f.logs.order l).1) s.saved refl old)
    by Falling may = one Falling refl (down_at g.joins q s old)
    by (Booting d) may = one (Booting d) refl (boot_at g q (g.clock q) d s f w old)
    by m may = one m refl (alike (act q (g.clock q) s m) refl refl refl refl refl refl refl refl
        refl)
