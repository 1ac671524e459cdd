-- A host over its disk with a stop.
use Rattle.std.proofs.Common.{◌≡◌, ℕ, true, false, None, Some, subst}
use Rattle.std.specs.Prelude.{is_some}
use Rattle.world_host.proofs.Saves.{Powered, PoweredWell, passed_fails, stopped_fails}
use Rattle.world_host.proofs.StopStores.{IsArmed, armed_told, armed_within, on_told, stopped_told, stopped_within}
use Rattle.world_host.proofs.Takes.{TellsDisk, passed_takes, stopped_takes}
use Rattle.world_host.proofs.Wholes.{Holds, Stepped}
use Rattle.harp_store.specs.Disk.{Moments, then_disk}
use Rattle.harp_store.specs.Memory.{crashed_by as told_crashed_by}
use Rattle.world_rules.specs.Host.{HostValue}
use Rattle.world_rules.specs.Steps.{HostFails, HostTakes}
use Rattle.world_rules.specs.declared.stop.Stop.{Stop}
use Rattle.node.specs.Node.{NodeValue}
use Rattle.node.specs.declared.input.Input.{Input}
use Rattle.node_outputs.specs.declared.outputs.Outputs.{Outputs}
use Rattle.harp_store.specs.Stopping.{numbered}
use Rattle.harp_store.specs.Values.{stands, told}
use Rattle.harp_store.specs.declared.stores.StoppingStore.{StoppingStore}

-- ---- a step

pub takes_on : (before after : HostValue) (given : Input) (now : ℕ) (n new : NodeValue)
    (stop : Stop) (s t : StoppingStore) (outs : Outputs) → Holds before n.me (Some n) (stands s).now
    → Holds after n.me (Some new) (stands t).now → IsArmed stop.calls s
    → is_some t.stopped ≡ false → Stepped now given n new (Some (told s)) (Some (told t)) outs
    → HostTakes before after given now (Some stop) (Some outs)
takes_on before after given now n new stop s t outs had has armed on st =
    let to : Moments = numbered t.left (stands t) in
    passed_takes before after given now n new stop t.left (stands s).now (stands t) outs had has
    (armed_within stop.calls s armed) t.stops.within
    (subst (λ (m : Moments). Stepped now given n new (Some m) (Some to) outs)
    (armed_told stop.calls s armed)
    (subst (λ (m : Moments). Stepped now given n new (Some (told s)) (Some m) outs) (on_told t on)
    st))

pub takes_until : (before after : HostValue) (given : Input) (now : ℕ) (n : NodeValue)
    (stop : Stop) (s t : StoppingStore) → Holds before n.me (Some n) (stands s).now
    → Holds after n.me None (told_crashed_by stop.pick (stands t).now) → IsArmed stop.calls s
    → is_some t.stopped ≡ true → TellsDisk now given n (Some (told s)) (Some (told t))
    → HostTakes before after given now (Some stop) None
takes_until before after given now n stop s t had has armed came st =
    let last = stopped_told t came in
    let to : Moments = then_disk last.0 (numbered 0 (stands t)) in
    stopped_takes before after given now n stop (stands s).now last.0 (stands t) had has
    (armed_within stop.calls s armed) (stopped_within t)
    (subst (λ (m : Moments). TellsDisk now given n (Some m) (Some to))
    (armed_told stop.calls s armed)
    (subst (λ (m : Moments). TellsDisk now given n (Some (told s)) (Some m)) last.1 st))

-- ---- a power failure

pub fails_on : (before after : HostValue) (n : NodeValue) (stop : Stop) (s t : StoppingStore)
    → Holds before n.me (Some n) (stands s).now → Holds after n.me None (stands t).now
    → IsArmed stop.calls s → is_some t.stopped ≡ false
    → PoweredWell n (Some (told s)) (Some (told t)) → HostFails before after (Some stop)
fails_on before after n stop s t had has armed on p =
    let to : Moments = numbered t.left (stands t) in
    passed_fails before after n stop t.left (stands s).now (stands t) had has
    (armed_within stop.calls s armed) t.stops.within
    (subst (λ (m : Moments). PoweredWell n (Some m) (Some to)) (armed_told stop.calls s armed)
    (subst (λ (m : Moments). PoweredWell n (Some (told s)) (Some m)) (on_told t on) p))

pub fails_until : (before after : HostValue) (n : NodeValue) (stop : Stop)
    (s t : StoppingStore) → Holds before n.me (Some n) (stands s).now
    → Holds after n.me None (told_crashed_by stop.pick (stands t).now) → IsArmed stop.calls s
    → is_some t.stopped ≡ true → Powered n (Some (told s)) (Some (told t))
    → HostFails before after (Some stop)
fails_until before after n stop s t had has armed came p =
    let last = stopped_told t came in
    let to : Moments = then_disk last.0 (numbered 0 (stands t)) in
    stopped_fails before after n stop (stands s).now last.0 (stands t) had has
    (armed_within stop.calls s armed) (stopped_within t)
    (subst (λ (m : Moments). Powered n (Some m) (Some to)) (armed_told stop.calls s armed)
    (subst (λ (m : Moments). Powered n (Some (told s)) (Some m)) last.1 p))
