-- What each disk of a run has, and what crashes at its moments leave.
use Rattle.std.proofs.Common.{◌≡◌, List, [], ◌∷◌, ◌++◌, length, drop, Option, Some, None, refl, sym, ap, subst, ◌∙◌, inl, inr, arith, append_assoc}
use Rattle.std.specs.Prelude.{All, slice_index_or}
use Rattle.std.proofs.lemmas.List.{drop-append-le, drop_all}
use Rattle.std.proofs.lemmas.List.Elements.{All-append, All-push, All-cons, All-nil}
use Rattle.std.proofs.lemmas.Grind.{common_steps}
use Rattle.harp_store.specs.Disk.{AtEachMoment, Disk, Moments, Image, KeepsTo, MayHaveMade, MayLeaveOne, MightHaveLeft, after_step, disks_since, moment}

-- the disks told since a run began
front_gone : (front more : List Disk) → drop (length front) (front ++ more) ≡ more
front_gone front more = drop-append-le (length front) front more (omega arith)
    ∙ ap (λ (ds : List Disk). ds ++ more) (drop_all (length front) front (omega arith))

pub since_is : (P : Disk → Type 0) (old new : Moments) (k : KeepsTo P old new)
    → disks_since (moment old) new ≡ k.more ++ new.now ∷ []
since_is P old new k =
    ap (λ (ds : List Disk). drop (length old.past) ds ++ new.now ∷ []) k.past
    ∙ ap (λ (ds : List Disk). ds ++ new.now ∷ []) (front_gone old.past k.more)

-- each of them has P
pub since_have : (P : Disk → Type 0) (old new : Moments) → KeepsTo P old new
    → All P (disks_since (moment old) new)
since_have P old new k = subst (All P) (sym (since_is P old new k))
    (All-push P k.more new.now k.each k.now)

-- what a crash at one of its moments leaves, a disk with P may leave
pub images_are_of : (P : Disk → Type 0) (old new : Moments) (image : Image)
    → AtEachMoment P (Some old) (Some new) → MightHaveLeft new (moment old) image
    → MayLeaveOne P image
images_are_of P old new image k left =
    let is : slice_index_or (disks_since (moment old) new) left.0 left.1 ≡ left.1 = left.3 in
    (left.1, subst P is (since_have P old new k left.0 left.1 left.2), left.4)

-- one run after another
join_kept : (P : Disk → Type 0) (old mid new : Moments) → KeepsTo P old mid → KeepsTo P mid new
    → KeepsTo P old new
join_kept P old mid new h k = record {
  more = h.more ++ k.more;
  past = k.past ∙ ap (λ (ds : List Disk). ds ++ k.more) h.past
      ∙ append_assoc old.past h.more k.more;
  each = All-append P h.more k.more h.each k.each;
  now = k.now;
}

pub runs_join : (P : Disk → Type 0) (old mid new : Option Moments) → AtEachMoment P old mid
    → AtEachMoment P mid new → AtEachMoment P old new
runs_join P None mid new h k = subst (λ (o : Option Moments). AtEachMoment P o new) h k
runs_join P (Some old) None new h k = absurd h
runs_join P (Some old) (Some mid) None h k = absurd k
runs_join P (Some old) (Some mid) (Some new) h k = join_kept P old mid new h k

-- no call at all
pub stays : (P : Disk → Type 0) (h : Moments) → P h.now → AtEachMoment P (Some h) (Some h)
stays P h p = record { more = []; past = search common_steps; each = All-nil P; now = p }

-- one step
pub steps : (P : Disk → Type 0) (step : Disk → Disk) (h : Moments) → P h.now → P (step h.now)
    → AtEachMoment P (Some h) (after_step step (Some h))
steps P step h p q = record {
  more = h.now ∷ [];
  past = refl;
  each = All-cons P h.now [] p
      (All-nil P);
  now = q;
}

-- a step that was made or wasn't
pub may_step : (P : Disk → Type 0) (step : Disk → Disk) (h : Moments) (new : Option Moments)
    → P h.now → P (step h.now) → MayHaveMade step (Some h) new
    → AtEachMoment P (Some h) new
may_step P step h new p q (inl e) = subst (λ (o : Option Moments). AtEachMoment P (Some h) o)
    (sym e) (stays P h p)
may_step P step h new p q (inr e) = subst (λ (o : Option Moments). AtEachMoment P (Some h) o)
    (sym e) (steps P step h p q)

-- what follows of each disk
weaker : (P Q : Disk → Type 0) (old new : Moments) → ((d : Disk) → P d → Q d) → KeepsTo P old new
    → KeepsTo Q old new
weaker P Q old new h k = record {
  more = k.more;
  past = k.past;
  each = λ i d lt. h
      (slice_index_or k.more i d) (k.each i d lt);
  now = h new.now k.now;
}

pub follows : (P Q : Disk → Type 0) (old new : Option Moments) → ((d : Disk) → P d → Q d)
    → AtEachMoment P old new → AtEachMoment Q old new
follows P Q None new h k = k
follows P Q (Some old) None h k = k
follows P Q (Some old) (Some new) h k = weaker P Q old new h k
