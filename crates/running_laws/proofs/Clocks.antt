-- The clocks of a run are set before an event: none is refused.
use Rattle.std.proofs.Common.{◌≡◌, ℕ, ◌+◌, ◌≤◌, max, true, false, nat_lt, List, [], ◌∷◌, ◌++◌, refl, sym, subst, arith, le-ltb}
use Rattle.std.proofs.lemmas.List.Elements.{Contains-append_left, Contains-push}
use Rattle.group_rules.proofs.Tests.{all_true, le_is}
use Rattle.group_rules.specs.Names.{place_of}
use Rattle.group_rules.specs.Places.{Zero, One, Two, Place, Trio as Three, get, with_at}
use Rattle.group_rules.specs.Step.{near, near_tests}
use Rattle.group_trace.specs.DiskRun.{DiskScene}
use Rattle.harp_types.specs.Trio.{value_of, with_value}
use Rattle.harp_types.specs.declared.server.ServerId.{ServerId}
use Rattle.harp_types.specs.declared.server.ServerId.TheVariants as server
use Rattle.harp_types.specs.declared.trio.Trio.{Trio}
use Rattle.trace_types.specs.declared.step.Step.TheVariants as step
use Rattle.world.proofs.Quiet.{advance_taken, clock_taken}
use Rattle.world.proofs.Refusals.{clock_right}
use Rattle.world.proofs.Tables.{each_value, value_there}
use Rattle.world.specs.Clocks.{later}
use Rattle.world.specs.World.{WorldValue, clocks_in}
use Rattle.running_laws.specs.Events.{Event}
use Rattle.running_laws.specs.Follows.{ClocksFollow}
use Rattle.running_laws.specs.Histories.{IsInTime, IsNear, IsRisen}
use Rattle.running_laws.proofs.Moving.{IsAt, LedTo, led_on, take_one}
use Rattle.running_laws.proofs.Reaching.{ahead, first_floor, floor_high, floor_low, floor_reach, max_high, raised_below, raised_by, raised_high, raised_low, reach, top_reach}

-- ---- one clock is set

-- each clock is in a window as wide as the skew
pub record AreWithin (low : ℕ) (clocks : Trio ℕ) : Type 0 where
  pub lows : (p : ServerId) → low ≤ value_of clocks p
  pub highs : (p : ServerId) → value_of clocks p ≤ low + 50

within_set : (low : ℕ) (clocks : Trio ℕ) (s : ServerId) (r : ℕ) → AreWithin low clocks → low ≤ r
    → r ≤ low + 50 → AreWithin low (with_value clocks s r)
within_set low clocks s r h a b = record {
  lows = each_value (λ p n. low ≤ n) clocks s r (λ p other. h.lows p) a;
  highs = each_value (λ p n. n ≤ low + 50) clocks s r (λ p other. h.highs p) b;
}

-- a clock in the window is near the others in it
near_all : (low t : ℕ) (clock : Place → ℕ) → low ≤ t → t ≤ low + 50
    → ((q : Place) → (low ≤ clock q) × (clock q ≤ low + 50)) → near t clock ≡ true
near_all low t clock a b h = all_true (near_tests t clock) (
  le_is t (clock Zero + 50) (upper (clock Zero) (h Zero).0),
  (
    le_is (clock Zero) (t + 50) (lower (clock Zero) (h Zero).1),
    (
      le_is t (clock One + 50) (upper (clock One) (h One).0),
      (
        le_is (clock One) (t + 50) (lower (clock One) (h One).1),
        (
          le_is t (clock Two + 50) (upper (clock Two) (h Two).0),
          (le_is (clock Two) (t + 50) (lower (clock Two) (h Two).1), tt),
        ),
      ),
    ),
  ),
)
  where
    upper : (c : ℕ) → low ≤ c → t ≤ c + 50
    upper c e = omega (arith, b, e)

    lower : (c : ℕ) → c ≤ low + 50 → c ≤ t + 50
    lower c e = omega (arith, a, e)

clocks_set : (low : ℕ) (clocks : Three ℕ) (q : Place) (t : ℕ) → low ≤ t → t ≤ low + 50
    → ((p : Place) → (low ≤ get clocks p) × (get clocks p ≤ low + 50))
    → (p : Place) → (low ≤ get (with_at clocks q t) p) × (get (with_at clocks q t) p ≤ low + 50)
clocks_set low clocks Zero t a b h Zero = (a, b)
clocks_set low clocks Zero t a b h One = h One
clocks_set low clocks Zero t a b h Two = h Two
clocks_set low clocks One t a b h Zero = h Zero
clocks_set low clocks One t a b h One = (a, b)
clocks_set low clocks One t a b h Two = h Two
clocks_set low clocks Two t a b h Zero = h Zero
clocks_set low clocks Two t a b h One = h One
clocks_set low clocks Two t a b h Two = (a, b)

within_at : (low : ℕ) (x : WorldValue) → AreWithin low x.clocks
    → (p : Place) → (low ≤ get (clocks_in x) p) × (get (clocks_in x) p ≤ low + 50)
within_at low x h Zero = (h.lows server.Zero, h.highs server.Zero)
within_at low x h One = (h.lows server.One, h.highs server.One)
within_at low x h Two = (h.lows server.Two, h.highs server.Two)

-- A CLOCK IS SET to a reading in the window that isn't below its own
set_clock : (es : List Event) (w : DiskScene) (x : WorldValue) (low : ℕ) (s : ServerId) (r : ℕ)
    → IsAt es w x
    → AreWithin low x.clocks → value_of x.clocks s ≤ r → r ≤ low + 50
    → LedTo es w (record x { clocks = with_value x.clocks s r }) []
set_clock es w x low s r at within le high =
    let y = record x { clocks = with_value x.clocks s r } in
    let low_s = within.lows s in
    let above : low ≤ r = omega (arith, low_s, le) in
    let later : nat_lt r (value_of x.clocks s) ≡ false = le-ltb r (value_of x.clocks s) le in
    let is : true ≡ near r (λ q. get (with_at (clocks_in x) (place_of s) r) q) =
    sym (near_all low r (λ q. get (with_at (clocks_in x) (place_of s) r) q) above high
    (clocks_set low (clocks_in x) (place_of s) r above high (within_at low x within))) in
    take_one es w x y (step.Clock s r) [] at tt (clock_taken x y s r refl)
    (clock_right w x at.stands s r true later is) refl

all_later : (es : List Event) (w : DiskScene) (x : WorldValue) (millis : ℕ) → IsAt es w x
    → LedTo es w (record x { clocks = later x.clocks millis }) []
all_later es w x millis at =
    let y = record x { clocks = later x.clocks millis } in
    take_one es w x y (step.Advance millis) [] at tt (advance_taken x y millis refl) refl refl

-- ---- all clocks are set

-- a clock that is below is set
abbrev raised : Trio ℕ → ServerId → ℕ → Trio ℕ
raised clocks s to = with_value clocks s (max (value_of clocks s) to)

abbrev all_raised : Trio ℕ → ℕ → Trio ℕ
all_raised clocks to =
    raised (raised (raised clocks server.Zero to) server.One to) server.Two to

raise : (es : List Event) (w : DiskScene) (x : WorldValue) (low : ℕ) (s : ServerId) (to : ℕ)
    → IsAt es w x
    → AreWithin low x.clocks → to ≤ low + 50
    → LedTo es w (record x { clocks = raised x.clocks s to }) []
raise es w x low s to at within high =
    let c = value_of x.clocks s in
    set_clock es w x low s (max c to) at within (omega arith) (max_high c to (low + 50)
    (within.highs s) high)

raised_within : (low : ℕ) (clocks : Trio ℕ) (s : ServerId) (to : ℕ) → AreWithin low clocks
    → to ≤ low + 50 → AreWithin low (raised clocks s to)
raised_within low clocks s to h high =
    let c = value_of clocks s in
    let a = h.lows s in
    within_set low clocks s (max c to) h (omega (arith, a))
    (max_high c to (low + 50) (h.highs s) high)

raise_all : (es : List Event) (w : DiskScene) (x : WorldValue) (low to : ℕ) → IsAt es w x
    → AreWithin low x.clocks
    → to ≤ low + 50 → LedTo es w (record x { clocks = all_raised x.clocks to }) []
raise_all es w x low to at within high =
    let c1 = raised x.clocks server.Zero to in
    let c2 = raised c1 server.One to in
    let h1 = raised_within low x.clocks server.Zero to within high in
    let h2 = raised_within low c1 server.One to h1 high in
    led_on es w (record x { clocks = c2 }) (record x { clocks = raised c2 server.Two to }) [] []
    (led_on es w (record x { clocks = c1 }) (record x { clocks = c2 }) [] []
    (raise es w x low server.Zero to at within high)
    (λ v there. raise es v (record x { clocks = c1 }) low server.One to there h1 high))
    (λ v there. raise es v (record x { clocks = c2 }) low server.Two to there h2 high)

-- ---- before an event

module _ (before : List Event) (e : Event) (clocks : Trio ℕ) (h : ClocksFollow before clocks)
    (in_time : IsInTime before e) where
  abbrev set_first : Trio ℕ
  set_first = later clocks (ahead h.top e.now)

  abbrev set_then : Trio ℕ
  set_then = all_raised set_first (reach h.top e.now)

  abbrev pub set_last : Trio ℕ
  set_last = with_value set_then e.place e.now

  near_top : h.top ≤ e.now + 50
  near_top = h.near e.now in_time.near

  then_is : (p : ServerId) → value_of set_then p ≡ raised_by h.top e.now (value_of clocks p)
  then_is server.Zero = refl
  then_is server.One = refl
  then_is server.Two = refl

  first_is : (p : ServerId) → value_of set_first p ≡ value_of clocks p + ahead h.top e.now
  first_is server.Zero = refl
  first_is server.One = refl
  first_is server.Two = refl

  first_within : AreWithin (first_floor h.top e.now) set_first
  first_within = record {
    lows = λ p. subst (λ n. first_floor h.top e.now ≤ n) (sym (first_is p))
        (floor_low h.top e.now (value_of clocks p) (h.low p));
    highs = λ p. subst (λ n. n ≤ first_floor h.top e.now + 50) (sym (first_is p))
        (floor_high h.top e.now (value_of clocks p) (h.high p));
  }

  then_within : AreWithin (reach h.top e.now) set_then
  then_within = record {
    lows = λ p. subst (λ n. reach h.top e.now ≤ n) (sym (then_is p)) (omega arith);
    highs = λ p.
        let a = raised_high h.top e.now (value_of clocks p) (h.high p) in
        let b = top_reach h.top e.now in
        subst (λ n. n ≤ reach h.top e.now + 50) (sym (then_is p)) (omega (arith, a, b));
  }

  -- a clock is above no reading that may come next, once all are set
  then_behind : (p : ServerId) (next : ℕ) → IsRisen before p next → IsNear before next
      → e.now ≤ next + 50 → value_of set_then p ≤ next
  then_behind p next risen near le = subst (λ n. n ≤ next) (sym (then_is p))
      (raised_below h.top e.now (value_of clocks p) next (h.high p) (h.behind p next risen near)
      (h.near next near) le)

  risen_before : (p : ServerId) (next : ℕ) → IsRisen (before ++ e ∷ []) p next
      → IsRisen before p next
  risen_before p next risen x has same =
      risen x (Contains-append_left before (e ∷ []) x has) same

  near_before : (next : ℕ) → IsNear (before ++ e ∷ []) next → IsNear before next
  near_before next near x has = near x (Contains-append_left before (e ∷ []) x has)

  -- THE CLOCKS FOLLOW the event, too
  pub clocks_follow : ClocksFollow (before ++ e ∷ []) set_last
  clocks_follow = record {
    top = max h.top e.now;
    near = λ next near.
        let a = h.near next (near_before next near) in
        let b = near e (Contains-push before e) in
        omega (arith, a, b);
    low = each_value (λ p n. max h.top e.now ≤ n + 50) set_then e.place e.now
        (λ p other. subst (λ n. max h.top e.now ≤ n + 50) (sym (then_is p))
        (raised_low h.top e.now (value_of clocks p)))
        (let a = near_top in omega (arith, a));
    high = each_value (λ p n. n ≤ max h.top e.now) set_then e.place e.now
        (λ p other. subst (λ n. n ≤ max h.top e.now) (sym (then_is p))
        (raised_high h.top e.now (value_of clocks p) (h.high p)))
        (omega arith);
    behind = each_value (λ p n. (next : ℕ) → IsRisen (before ++ e ∷ []) p next
        → IsNear (before ++ e ∷ []) next → n ≤ next) set_then e.place e.now
        (λ p other next risen near. then_behind p next (risen_before p next risen)
        (near_before next near) (near e (Contains-push before e)))
        (λ next risen near. risen e (Contains-push before e) refl);
  }

  pub reads_now : value_of set_last e.place ≡ e.now
  reads_now = value_there set_then e.place e.now

  -- THE RUN SETS THEM so
  pub clocks_led : (w : DiskScene) (x : WorldValue) → x.clocks ≡ clocks
      → IsAt (before ++ e ∷ []) w x
      → LedTo (before ++ e ∷ []) w (record x { clocks = set_last }) []
  clocks_led w x is at =
      let to = reach h.top e.now in
      let x1 = record x { clocks = set_first } in
      let x2 = record x { clocks = set_then } in
      led_on (before ++ e ∷ []) w x2 (record x { clocks = set_last }) [] []
      (led_on (before ++ e ∷ []) w x1 x2 [] []
      (subst (λ c. LedTo (before ++ e ∷ []) w
      (record x { clocks = later c (ahead h.top e.now) }) []) is
      (all_later (before ++ e ∷ []) w x (ahead h.top e.now) at))
      (λ v there. raise_all (before ++ e ∷ []) v x1 (first_floor h.top e.now) to there first_within
      (floor_reach h.top e.now)))
      (λ v there. set_clock (before ++ e ∷ []) v x2 to e.place e.now there then_within
      (then_behind e.place e.now in_time.rises in_time.near (omega arith))
      (let a = top_reach h.top e.now in omega (arith, a)))
