-- What the host of a server did, in its world.
use Rattle.std.proofs.Common.{◌≡◌, ℕ, Option, Result, Ok, Err, sym, subst}
use Rattle.std.specs.Prelude.{OnOk}
use Rattle.harp_types.specs.Trio.{value_of, with_value}
use Rattle.harp_types.specs.declared.server.ServerId.{ServerId}
use Rattle.harp_types.specs.declared.trio.Trio.{Trio}
use Rattle.harp_types.specs.declared.pick.Pick.{Pick}
use Rattle.world_rules.specs.Host.{HostValue}
use Rattle.world_rules.specs.Steps.{HostBoots, HostFails, HostFalls}
use Rattle.world_rules.specs.declared.stop.Stop.{Stop}
use Rattle.world.proofs.Tables.{value_there}

pub on_ok : {A E P Q : Type 0} (r : Result A E) → (P → Q) → OnOk r P → OnOk r Q
on_ok (Ok x) f h = f h
on_ok (Err e) f h = tt

module _ (hosts : Trio HostValue) (server : ServerId) (old there new : HostValue)
    (is : there ≡ old) where
  pub hosts_boot : (now delta now' delta' : ℕ) → now ≡ now' → delta ≡ delta'
      → HostBoots there new now delta
      → HostBoots old (value_of (with_value hosts server new) server) now' delta'
  hosts_boot now delta now' delta' e f h = subst (λ n. HostBoots old
      (value_of (with_value hosts server new) server) n delta') e
      (subst (λ d. HostBoots old (value_of (with_value hosts server new) server) now d) f
      (subst (λ x. HostBoots old x now delta) (sym (value_there hosts server new))
      (subst (λ x. HostBoots x new now delta) is h)))

  pub hosts_fall : (by : Pick) → HostFalls there new by
      → HostFalls old (value_of (with_value hosts server new) server) by
  hosts_fall by h = subst (λ x. HostFalls old x by) (sym (value_there hosts server new))
      (subst (λ x. HostFalls x new by) is h)

  pub hosts_fail : (stop : Option Stop) → HostFails there new stop
      → HostFails old (value_of (with_value hosts server new) server) stop
  hosts_fail stop h = subst (λ x. HostFails old x stop) (sym (value_there hosts server new))
      (subst (λ x. HostFails x new stop) is h)
