use Rattle.std.proofs.Common.{◌≡◌, ℕ, List, ◌∷◌, ap, arith, drop, sym, take, ◌∙◌}
use Rattle.std.specs.List.{position_or_len}
use Rattle.std.proofs.lemmas.List.{take_rest}
use Rattle.nfs_door.specs.Paths.{is_slash, names_in}
use Rattle.nfs_door.proofs.PathLaws.{first_name, no_names}
use Rattle.nfs_door.proofs.path.Names.split_first.Goals as goal

pub returns-then-count-eq0 : goal.returns-then-count-eq0
returns-then-count-eq0 c =
    let path = c.as_slice-path.result.now in
    let k = c.slashes.result in
    let long = c.name_length-count.ensures.value
    ∙ ap (position_or_len is_slash) (take_rest path k) in
    sym c.self.view_is ∙ ap names_in (sym c.as_slice-path.ensures.value)
    ∙ no_names path k c.name_length-count.result c.slashes.ensures.value long (omega arith)

pub returns : goal.returns
returns c =
    let path = c.as_slice-path.result.now in
    let k = c.slashes.result in
    let n = c.name_length-count.result in
    let all = take_rest path k in
    let long = c.name_length-count.ensures.value ∙ ap (position_or_len is_slash) all in
    let name : c.new-2.result ≡ take n (drop k path) =
    c.new-2.ensures ∙ c.in_ok-name.ensures.items ∙ ap (take n) all in
    let others : c.new.result ≡ drop n (drop k path) =
    c.new.ensures ∙ c.in_ok-others.ensures.items ∙ take_rest _ n ∙ ap (drop n) all in
    sym c.self.view_is ∙ ap names_in (sym c.as_slice-path.ensures.value)
    ∙ first_name path k n c.slashes.ensures.value long (omega arith)
    ∙ ap (λ (s : List ℕ). s ∷ names_in (drop n (drop k path))) (sym name)
    ∙ ap (λ (s : List ℕ). c.new-2.result ∷ names_in s) (sym others)
