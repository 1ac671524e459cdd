-- The attributes of objects fit.
use Rattle.std.proofs.Common.{◌≡◌, ℕ, ◌<◌, ◌≤◌, ◌^◌, Option, Some, None, refl, subst, arith}
use Rattle.harp_base.specs.Attributes.{AttrFits}
use Rattle.file_tree.specs.declared.object.Body.{Body}
use Rattle.file_tree.specs.declared.object.Body.TheVariants.{Regular, Directory, Link}
use Rattle.file_tree.specs.declared.object.Object.{Object}
use Rattle.file_tree.specs.Tree.{Tree, attr_at, attr_of, attr_of_place, blocks_of, links_of, place, size_of, used_blocks}
use Rattle.file_tree.specs.Sound.{IsSound, IsSoundObject}
use Rattle.file_tree.proofs.Bounds.{names_of-le, place_fits, subdirectories-le}
use Rattle.accept_laws.specs.Trees.{ObjectFits, PlaceFits, TreeFits}
use Rattle.accept_laws.proofs.TreeLists.{all-at}

pub object_fits : (tree : Tree) (n : ℕ) (o : Object) → TreeFits tree → place tree n ≡ Some o
    → ObjectFits o
object_fits tree n o h at = subst PlaceFits at (all-at PlaceFits tree n None tt h)

links_fit : (tree : Tree) (n : ℕ) (b : Body) → used_blocks tree ≤ 65536
    → blocks_of (size_of b) ≤ 65536 → links_of tree n b < 2 ^ 32
unfolding links_of
links_fit tree n (Directory slots) u f = omega (arith, subdirectories-le tree slots, f)
links_fit tree n (Regular bytes) u f = omega (arith, names_of-le tree n, u)
links_fit tree n (Link text) u f = omega (arith, names_of-le tree n, u)

size_small : (size : ℕ) → blocks_of size ≤ 65536 → size < 2 ^ 32
size_small size f = omega (arith, f)

-- an object takes no more blocks than a tree may have
pub blocks_few : (tree : Tree) (n : ℕ) (o : Object) → IsSound tree → place tree n ≡ Some o
    → blocks_of (size_of o.body) ≤ 65536
blocks_few tree n o is at = omega (arith, place_fits tree n o at, is.limits.room)

pub object_attr : (tree : Tree) (n : ℕ) (o : Object) → IsSound tree → place tree n ≡ Some o
    → ObjectFits o → n < 2 ^ 32 → AttrFits (attr_of tree n o)
object_attr tree n o is at h lt =
    let sound : IsSoundObject (Some o) = subst IsSoundObject at (is.objects n) in
    let most = blocks_few tree n o is at in (
      omega (arith, sound.0),
      links_fit tree n o.body is.limits.room most,
      h.uid,
      h.gid,
      size_small (size_of o.body) most,
      omega (arith, most),
      lt,
      h.atime,
      h.mtime,
      h.ctime,
    )

at_place : (tree : Tree) (n : ℕ) (x : Option Object) → IsSound tree → TreeFits tree → n < 2 ^ 32
    → place tree n ≡ x → AttrFits (attr_of_place tree n x)
at_place tree n None is h lt at = (
  omega arith,
  omega arith,
  omega arith,
  omega arith,
  omega arith,
  omega arith,
  omega arith,
  (omega arith, omega arith),
  (omega arith, omega arith),
  (omega arith, omega arith),
)
at_place tree n (Some o) is h lt at =
    object_attr tree n o is at (object_fits tree n o h at) lt

pub attr_fits : (tree : Tree) (n : ℕ) → IsSound tree → TreeFits tree → n < 2 ^ 32
    → AttrFits (attr_at tree n)
unfolding attr_at
attr_fits tree n is h lt = at_place tree n (place tree n) is h lt refl
