-- A world in which a stop was spent, and then a host did something.
use Rattle.std.proofs.Common.{◌≡◌, Option, None, ap, ◌∙◌, subst}
use Rattle.harp_types.specs.Trio.{value_of, with_value}
use Rattle.harp_types.specs.declared.server.ServerId.{ServerId}
use Rattle.harp_types.specs.declared.pick.Pick.{Pick}
use Rattle.world_rules.specs.Steps.{HostBoots, HostFails, HostFalls, HostTakes}
use Rattle.world_rules.specs.declared.stop.Stop.{Stop}
use Rattle.node.specs.declared.input.Input.{Input}
use Rattle.node_outputs.specs.declared.outputs.Outputs.{Outputs}
use Rattle.world.specs.Hosts.{HasHost}
use Rattle.world.specs.World.{WorldValue}
use Rattle.world.proofs.Turns.{with_host}

abbrev pub without_stop : WorldValue → ServerId → WorldValue
without_stop x server = record x { stops = with_value x.stops server None }

module _ (old spent new : WorldValue) (server : ServerId) (is : spent ≡ without_stop old server)
  where
    pub host_then : HasHost spent new server → new ≡ with_host old server (value_of new.hosts server)
    host_then has = has.world ∙ ap (λ (x : WorldValue). record x {
      hosts = with_value x.hosts server (value_of new.hosts server);
    }) is

    pub me_then : HasHost spent new server
        → (value_of new.hosts server).me ≡ (value_of old.hosts server).me
    me_then has = has.me ∙ ap (λ (x : WorldValue). (value_of x.hosts server).me) is

    pub takes_then : (given : Input) (stop : Option Stop) (outs : Option Outputs)
        → stop ≡ value_of old.stops server
        → HostTakes (value_of spent.hosts server) (value_of new.hosts server) given
        (value_of spent.clocks server) stop outs
        → HostTakes (value_of old.hosts server) (value_of new.hosts server) given
        (value_of old.clocks server) (value_of old.stops server) outs
    takes_then given stop outs its h = subst (λ s. HostTakes (value_of old.hosts server)
        (value_of new.hosts server) given (value_of old.clocks server) s outs) its
        (subst (λ (x : WorldValue). HostTakes (value_of x.hosts server) (value_of new.hosts server)
        given (value_of x.clocks server) stop outs) is h)

    pub fails_then : (stop : Option Stop)
        → HostFails (value_of spent.hosts server) (value_of new.hosts server) stop
        → HostFails (value_of old.hosts server) (value_of new.hosts server) stop
    fails_then stop h = subst (λ (x : WorldValue). HostFails (value_of x.hosts server)
        (value_of new.hosts server) stop) is h

    pub falls_then : (by : Pick)
        → HostFalls (value_of spent.hosts server) (value_of new.hosts server) by
        → HostFalls (value_of old.hosts server) (value_of new.hosts server) by
    falls_then by h = subst (λ (x : WorldValue). HostFalls (value_of x.hosts server)
        (value_of new.hosts server) by) is h

    pub boots_then : HostBoots (value_of spent.hosts server) (value_of new.hosts server)
        (value_of spent.clocks server) spent.delta
        → HostBoots (value_of old.hosts server) (value_of new.hosts server)
        (value_of old.clocks server) old.delta
    boots_then h = subst (λ (x : WorldValue). HostBoots (value_of x.hosts server)
        (value_of new.hosts server) (value_of x.clocks server) x.delta) is h
