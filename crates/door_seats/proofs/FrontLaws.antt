-- The record at the front of bytes, fragment by fragment.
use Rattle.std.proofs.Common.{◌≡◌, ℕ, suc, ◌+◌, ◌-◌, ◌<◌, ◌≤◌, true, false, List, [], ◌++◌, ap, arith, drop, length, length-append, length-drop, length-take, sym, take, ◌∙◌}
use Rattle.std.proofs.lemmas.List.{drop-drop}
use Rattle.rpc_door.specs.Marks.{Ends, Front, Large, Long, Part, Short, Whole, behind, front, front_of, piece_at}
use Rattle.rpc_door.proofs.Fronts.{behind_behind, behind_none, front_ends, front_last, front_long, front_more, front_past, front_past_ends}

-- some fragments of a record are passed, and these are their bytes together; others follow
pub record IsWithin (bytes out : List ℕ) (taken count : ℕ) : Type 0 where
  pub fits : taken ≤ length bytes
  pub few : length out ≤ 20000
  pub is : front bytes
      ≡ behind out (front_of (1000 - count) (20000 - length out) (drop taken bytes))

pub within_none : (bytes : List ℕ) → IsWithin bytes [] 0 0
within_none bytes = record {
  fits = omega arith;
  few = omega arith;
  is = sym (behind_none (front bytes));
}

module _ (bytes out : List ℕ) (taken count : ℕ) (w : IsWithin bytes out taken count) where
  abbrev rest : List ℕ
  rest = drop taken bytes

  abbrev room : ℕ
  room = 20000 - length out

  next : (f : Front) → count < 1000 → front_of (suc (999 - count)) room rest ≡ f
      → front bytes ≡ behind out f
  next f some is =
      let fuel : 1000 - count ≡ suc (999 - count) = omega arith in
      w.is ∙ ap (λ (n : ℕ). behind out (front_of n room rest)) fuel ∙ ap (behind out) is

  past : (f : Front) → 1000 ≤ count → front_of 0 room rest ≡ f → front bytes ≡ behind out f
  past f none is =
      let fuel : 1000 - count ≡ 0 = omega (arith, none) in
      w.is ∙ ap (λ (n : ℕ). behind out (front_of n room rest)) fuel ∙ ap (behind out) is

  pub within_ends : count < 1000 → piece_at room rest ≡ Ends → front bytes ≡ Short
  within_ends some is = next Short some (front_ends (999 - count) room rest is)

  pub within_long : count < 1000 → piece_at room rest ≡ Long → front bytes ≡ Large
  within_long some is = next Large some (front_long (999 - count) room rest is)

  pub past_short : 1000 ≤ count → length bytes - taken < 4 → front bytes ≡ Short
  past_short none short = past Short none
      (front_past_ends room rest (omega (arith, length-drop taken bytes)))

  pub past_large : 1000 ≤ count → 4 ≤ length bytes - taken → front bytes ≡ Large
  past_large none long = past Large none
      (front_past room rest (omega (arith, length-drop taken bytes)))

  module _ (size : ℕ) (fits : size ≤ room) (all : 4 + size ≤ length rest)
      (some : count < 1000) where
    abbrev part : List ℕ
    part = take size (drop 4 rest)

    abbrev more : List ℕ
    more = drop size (drop 4 rest)

    more_is : more ≡ drop (taken + (4 + size)) bytes
    more_is = drop-drop size 4 rest ∙ drop-drop (4 + size) taken bytes

    size_is : length part ≡ size
    size_is = omega (arith, length-take size (drop 4 rest), length-drop 4 rest)

    pub within_last : piece_at room rest ≡ Part true part more
        → front bytes ≡ Whole (out ++ part) (drop (taken + (4 + size)) bytes)
    within_last is = next (Whole part more) some (front_last (999 - count) room rest part more is)
        ∙ ap (λ (s : List ℕ). Whole (out ++ part) s) more_is

    pub within_more : piece_at room rest ≡ Part false part more
        → IsWithin bytes (out ++ part) (taken + (4 + size)) (count + 1)
    within_more is =
        let fewer : 999 - count ≡ 1000 - (count + 1) = omega arith in
        let less : room - length part ≡ 20000 - length (out ++ part) =
        omega (arith, size_is, length-append out part) in
        record {
          fits = omega (arith, length-drop taken bytes, w.fits);
          few = omega (arith, size_is, length-append out part, w.few);
          is = next _ some (front_more (999 - count) room rest part more is)
              ∙ behind_behind out part (front_of (999 - count) (room - length part) more)
              ∙ ap (λ (n : ℕ). behind (out ++ part) (front_of n (room - length part) more)) fewer
              ∙ ap (λ (n : ℕ). behind (out ++ part) (front_of (1000 - (count + 1)) n more)) less
              ∙ ap (λ (s : List ℕ). behind (out ++ part)
              (front_of (1000 - (count + 1)) (20000 - length (out ++ part)) s)) more_is;
        }
