use Rattle.std.proofs.Common.{◌≡◌, refl, subst}
use Rattle.std.specs.Prelude.{MatchBool}
use Rattle.trace_claims.specs.Servers.{is_open}
use Rattle.trace_check.specs.Marks.{IsNoted, IsRaised}
use Rattle.trace_check.specs.ServersSeen.{IsAt}
use Rattle.trace_check.proofs.servers.Servers.show.Goals as goal

pub returns : goal.returns
returns c =
    rw c.set_last.ensures (record {
      last = refl;
      shown = subst (λ k. IsAt c.args.server (IsRaised k c.args.state.now.top)
          c.args.self.now.shown c.raise.new.marks) c.place_key-key.ensures c.in_ok-raise.ensures;
      opened = subst (λ k. MatchBool (is_open c.args.state.now.mode)
          (IsAt c.args.server (IsNoted k c.args.state.now.cp) c.args.self.now.opened
          c.note_opening.new.opened) (c.note_opening.new.opened ≡ c.args.self.now.opened))
          c.place_key-key.ensures c.in_ok-note_opening.ensures;
    })
