-- What a trace comes to with one more line.
use Rattle.std.proofs.Common.{◌≡◌, ℕ, ◌+◌, [], ◌∷◌, ◌++◌, append-nil, append_assoc, ap, ◌∙◌, arith, Option, Some, None}
use Rattle.std.proofs.lemmas.List.Sums.{sum_by_push, fold-append}
use Rattle.harp_types.specs.declared.server.ServerId.{ServerId}
use Rattle.trace_types.specs.declared.line.Line.{Line}
use Rattle.trace_types.specs.declared.line.LineFault.{LineFault}
use Rattle.trace_claims.specs.Servers.{first_state, last_state, later_state}
use Rattle.trace_claims.specs.Trace.{Trace}
use Rattle.schedule_play.specs.Trace.{last_line}
use Rattle.sweep.specs.declared.summary.Summary.{Summary}
use Rattle.sweep_player.specs.Counts.{is_answered, is_entered, is_opening, is_refused, one_if, openings_behind, summary_of_trace}

openings-push : (before trace : Trace) (l : Line)
    → openings_behind before (trace ++ l ∷ [])
    ≡ openings_behind before trace + one_if (is_opening (before ++ trace) l)
unfolding openings_behind
openings-push before [] l =
    let e = ap (λ t. one_if (is_opening t l)) (append-nil before) in omega (arith, e)
openings-push before (x ∷ trace) l =
    let later = openings-push (before ++ x ∷ []) trace l in
    let e = ap (λ t. one_if (is_opening t l)) (append_assoc before (x ∷ []) trace) in
    omega (arith, later, e)

-- summaries are alike whose counts are
pub alike : (s t : Summary) → s.entered ≡ t.entered → s.answered ≡ t.answered
    → s.refused ≡ t.refused → s.opened ≡ t.opened → s ≡ t
alike s t e a r o =
    ap (λ n. record {
      entered = n;
      answered = s.answered;
      refused = s.refused;
      opened = s.opened;
    }) e
    ∙ ap (λ n. record {
      entered = t.entered;
      answered = n;
      refused = s.refused;
      opened = s.opened;
    }) a
    ∙ ap (λ n. record {
      entered = t.entered;
      answered = t.answered;
      refused = n;
      opened = s.opened;
    }) r
    ∙ ap (λ n. record {
      entered = t.entered;
      answered = t.answered;
      refused = t.refused;
      opened = n;
    }) o

-- the counts with one more line
pub summary-push : (trace : Trace) (l : Line)
    → summary_of_trace (trace ++ l ∷ []) ≡ record {
      entered = (summary_of_trace trace).entered + one_if (is_entered l);
      answered = (summary_of_trace trace).answered + one_if (is_answered l);
      refused = (summary_of_trace trace).refused + one_if (is_refused l);
      opened = (summary_of_trace trace).opened + one_if (is_opening trace l);
    }
unfolding summary_of_trace
summary-push trace l =
    alike (summary_of_trace (trace ++ l ∷ [])) _
    (sum_by_push (λ x. one_if (is_entered x)) trace l)
    (sum_by_push (λ x. one_if (is_answered x)) trace l)
    (sum_by_push (λ x. one_if (is_refused x)) trace l)
    (openings-push [] trace l)

-- a server's state after one more line
pub state-push : (trace : Trace) (l : Line) (server : ServerId)
    → last_state (trace ++ l ∷ []) server ≡ later_state server (last_state trace server) l
state-push trace l server =
    fold-append (later_state server) (Some (first_state server)) trace (l ∷ [])

-- the last line of a trace counts for nothing
pub last-counts : (trace : Trace) (entered : ℕ) (refused : Option (ℕ × LineFault))
    → summary_of_trace (trace ++ last_line entered refused ∷ []) ≡ summary_of_trace trace
last-counts trace entered None =
    summary-push trace (last_line entered None)
    ∙ alike _ (summary_of_trace trace) (omega arith) (omega arith) (omega arith) (omega arith)
last-counts trace entered (Some x) =
    summary-push trace (last_line entered (Some x))
    ∙ alike _ (summary_of_trace trace) (omega arith) (omega arith) (omega arith) (omega arith)
