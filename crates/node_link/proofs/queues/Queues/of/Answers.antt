use Rattle.std.proofs.Common.{◌++◌, [], ◌∷◌, ap, sym, ◌∙◌}
use Rattle.std.proofs.lemmas.List.Elements.{filter_map-append}
use Rattle.node_link.specs.Memory.{datagram_for, waiting_at}
use Rattle.node_link.proofs.queues.Queues.of.Goals as goal

pub loop-one-preserved : goal.loop-one-preserved
loop-one-preserved c = λ place.
    c.in_ok-push.ensures place
    ∙ ap (λ before. before ++ waiting_at place (c.in-Some.one ∷ [])) (c.loop-one.invariant place)
    ∙ sym (filter_map-append (datagram_for place) c.loop-one.yielded (c.in-Some.one ∷ []))
