-- The first name of a path, and the others.
use Rattle.std.proofs.Common.{◌≡◌, ◌≢◌, ◌⊎◌, ℕ, suc, ◌+◌, ◌<◌, ◌≤◌, Bool, true, false, not, List, [], ◌∷◌, ◌++◌, ap, arith, drop, get_or, inl, inr, length, refl, subst, sym, take, ◌∙◌}
use Rattle.std.specs.List.{All, filter, position_or_len, slice_split}
use Rattle.std.proofs.lemmas.Bool.{cases_lt, ne_eqb}
use Rattle.std.proofs.lemmas.List.{append-nil, drop_all, drop_more, length-take, take_all}
use Rattle.std.proofs.lemmas.List.Splits.{slice_split_at, slice_split_first, slice_split_none}
use Rattle.std.proofs.lemmas.List.Sums.{fails_before_first, passes_at_first, prefix_len-le-length}
use Rattle.harp_base.specs.Fields.{AllFit}
use Rattle.nfs_door.specs.Paths.{IsName, is_absolute, is_slash, is_some_text, names_in, path_of}

abbrev pub is_other : ℕ → Bool
is_other b = not (is_slash b)

-- ---- slashes at the front

names_past : (x : ℕ) (xs : List ℕ) → is_slash x ≡ true → names_in (x ∷ xs) ≡ names_in xs
names_past x xs is = rw is refl

abbrev Behind : List ℕ → Type 0
Behind path =
    (names_in path ≡ names_in (drop (position_or_len is_other path) path))
    × (is_absolute (drop (position_or_len is_other path) path) ≡ false)

behind_one : (b : Bool) (x : ℕ) (xs : List ℕ) → is_slash x ≡ b → Behind xs → Behind (x ∷ xs)
behind_one true x xs is rest =
    let one : position_or_len is_other (x ∷ xs) ≡ suc (position_or_len is_other xs) =
    rw is (omega arith) in
    subst (λ (n : ℕ). (names_in (x ∷ xs) ≡ names_in (drop n (x ∷ xs)))
    × (is_absolute (drop n (x ∷ xs)) ≡ false)) (sym one) (names_past x xs is ∙ rest.0, rest.1)
behind_one false x xs is rest =
    let none : position_or_len is_other (x ∷ xs) ≡ 0 = rw is refl in
    subst (λ (n : ℕ). (names_in (x ∷ xs) ≡ names_in (drop n (x ∷ xs)))
    × (is_absolute (drop n (x ∷ xs)) ≡ false)) (sym none) (refl, is)

pub behind_slashes : (path : List ℕ) → Behind path
behind_slashes [] = (refl, refl)
behind_slashes (x ∷ xs) = behind_one (is_slash x) x xs refl (behind_slashes xs)

-- ---- a name at the front

pub no_name : (path : List ℕ) → is_absolute path ≡ false → position_or_len is_slash path ≡ 0
    → names_in path ≡ []
no_name [] other none = refl
no_name (x ∷ xs) other none =
    let more : 0 < position_or_len is_slash (x ∷ xs) = rw other omega arith in
    absurd (omega arith)

some_kept : (name : List ℕ) (rest : List (List ℕ)) → 0 < length name
    → filter is_some_text (name ∷ rest) ≡ name ∷ filter is_some_text rest
some_kept [] rest some = absurd (omega arith)
some_kept (x ∷ xs) rest some = refl

-- the first slash behind a name
at_slash : (path : List ℕ) → position_or_len is_slash path < length path
    → names_in (drop (position_or_len is_slash path) path)
    ≡ names_in (drop (position_or_len is_slash path + 1) path)
at_slash path before =
    let place = position_or_len is_slash path in
    ap names_in (drop_more path place 0 before)
    ∙ names_past (get_or path place 0) (drop (place + 1) path)
    (passes_at_first is_slash path 0 before)

name_with : (path : List ℕ) → 0 < position_or_len is_slash path
    → (position_or_len is_slash path < length path) ⊎ (length path ≤ position_or_len is_slash path)
    → names_in path ≡ take (position_or_len is_slash path) path
    ∷ names_in (drop (position_or_len is_slash path) path)
name_with path some (inl before) =
    let place = position_or_len is_slash path in
    let long : 0 < length (take place path) = omega (arith, length-take place path) in
    ap (filter is_some_text) (slice_split_first is_slash path 0 before)
    ∙ some_kept (take place path) (slice_split is_slash (drop (place + 1) path)) long
    ∙ ap (λ (names : List (List ℕ)). take place path ∷ names) (sym (at_slash path before))
name_with path some (inr all) =
    let place = position_or_len is_slash path in
    let none : All (λ x. is_slash x ≡ false) path =
    λ k d within. fails_before_first is_slash path k d (omega arith) in
    let long : 0 < length path = omega (arith, prefix_len-le-length (λ x. not (is_slash x)) path) in
    rw (take_all place path all, drop_all place path all)
    (ap (filter is_some_text) (slice_split_none is_slash path none) ∙ some_kept path [] long)

-- where a path doesn't begin with a slash, a name is what stands before the first one
pub a_name : (path : List ℕ) → 0 < position_or_len is_slash path
    → names_in path ≡ take (position_or_len is_slash path) path
    ∷ names_in (drop (position_or_len is_slash path) path)
a_name path some = name_with path some (cases_lt (position_or_len is_slash path) (length path))

-- ---- bytes

pub slash_byte : (x : ℕ) → x ≡ 47 → is_slash x ≡ true
slash_byte x is = rw is refl

pub other_byte : (x : ℕ) → (x ≢ 47) → is_other x ≡ true
other_byte x other = ap not (ne_eqb x 47 other)

-- ---- the first name

module _ (path : List ℕ) (slashes count : ℕ) (behind : slashes ≡ position_or_len is_other path)
    (long : count ≡ position_or_len is_slash (drop slashes path)) where
  pub no_names : count ≡ 0 → names_in path ≡ []
  no_names none =
      let b = behind_slashes path in
      let same : names_in path ≡ names_in (drop slashes path) = rw behind b.0 in
      let other : is_absolute (drop slashes path) ≡ false = rw behind b.1 in
      same ∙ no_name (drop slashes path) other (sym long ∙ none)

  pub first_name : 0 < count
      → names_in path ≡ take count (drop slashes path) ∷ names_in (drop count (drop slashes path))
  first_name some =
      let b = behind_slashes path in
      let same : names_in path ≡ names_in (drop slashes path) = rw behind b.0 in
      let longer : 0 < position_or_len is_slash (drop slashes path) = omega (arith, long) in
      same ∙ rw long (a_name (drop slashes path) longer)

-- ---- the path of names

no_slashes : (name : List ℕ) → All (λ byte. byte ≢ 47) name → All (λ x. is_slash x ≡ false) name
no_slashes name others k d within = ne_eqb (get_or name k d) 47 (others k d within)

pub names_again : (names : List (List ℕ)) → AllFit IsName names → names_in (path_of names) ≡ names
names_again [] fit = refl
names_again (x ∷ []) fit =
    let none = no_slashes x fit.0.1 in
    names_past 47 (x ++ []) refl ∙ ap names_in (append-nil x)
    ∙ ap (filter is_some_text) (slice_split_none is_slash x none) ∙ some_kept x [] fit.0.0
names_again (x ∷ y ∷ names) fit =
    let behind = y ++ path_of names in
    let none = no_slashes x fit.0.1 in
    names_past 47 (x ++ 47 ∷ behind) refl
    ∙ ap (filter is_some_text) (slice_split_at is_slash x 47 behind none refl)
    ∙ some_kept x (slice_split is_slash behind) fit.0.0
    ∙ ap (λ (l : List (List ℕ)). x ∷ l)
    (sym (names_past 47 behind refl) ∙ names_again (y ∷ names) fit.1)
