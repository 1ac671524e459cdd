use Rattle.std.proofs.Common.{◌≡◌, Some, ap}
use Rattle.harp_types.specs.Trio.{value_of}
use Rattle.harp_types.specs.declared.server.ServerId.{ServerId}
use Rattle.harp_types.specs.declared.server.ServerId.TheVariants as server
use Rattle.harp_types.specs.declared.state.StateLine.{StateLine}
use Rattle.trace_claims.specs.Servers.{first_state}
use Rattle.trace_check.proofs.ServerLemmas.{no_line}
use Rattle.trace_check.proofs.servers.Servers.new.Goals as goal

firsts : (x y z : StateLine) → x ≡ first_state server.Zero → y ≡ first_state server.One
    → z ≡ first_state server.Two → (s : ServerId)
    → value_of (record { zero = Some x; one = Some y; two = Some z }) s ≡ Some (first_state s)
firsts x y z a b d server.Zero = ap (λ (i : StateLine). Some i) a
firsts x y z a b d server.One = ap (λ (i : StateLine). Some i) b
firsts x y z a b d server.Two = ap (λ (i : StateLine). Some i) d

pub returns : goal.returns
returns c =
    no_line (record {
      last = record {
        zero = Some c.at_rest.result;
        one = Some c.at_rest-2.result;
        two = Some c.at_rest-3.result;
      };
      shown = c.no_marks.result;
      opened = c.no_marks-2.result;
    })
    (firsts c.at_rest.result c.at_rest-2.result c.at_rest-3.result c.at_rest.ensures
    c.at_rest-2.ensures c.at_rest-3.ensures) c.no_marks.ensures c.no_marks-2.ensures
