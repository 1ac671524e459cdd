-- What the outputs of a server's step come to in the world.
use Rattle.std.specs.Prelude.{◌≡◌, List, ◌++◌, length, Option, None, Some}
use Rattle.world_lines.specs.Given.{book_given, lines_given, packets_of}
use Rattle.harp_types.specs.declared.server.ServerId.{ServerId}
use Rattle.node_outputs.specs.declared.outputs.Outputs.{Outputs}
use Rattle.trace_types.specs.declared.line.Line.{Line}
use Rattle.tree_listing.specs.declared.listing.Listing.{Listing}
use Rattle.world.specs.World.{WorldValue}

-- the world with a server's outputs in its book and among its packets
abbrev pub given_to : WorldValue → ServerId → Outputs → WorldValue
given_to x server outs = record x {
  packets = x.packets ++ packets_of server outs.sends.items;
  book = book_given x.book outs;
}

-- the outputs were put into the world, and these are their lines and their listing
pub record GivesAll (old new : WorldValue) (server : ServerId) (outs : Outputs)
    (before after : List Line) (listing : Option Listing) : Type 0 where
  pub world : new ≡ given_to old server outs
  pub lines : after ≡ before ++ lines_given server old.book (length old.packets) outs
  pub listed : listing ≡ outs.listing

-- nothing was given
pub record GivesNothing (old new : WorldValue) (before after : List Line)
    (listing : Option Listing) : Type 0 where
  pub world : new ≡ old
  pub lines : after ≡ before
  pub listed : listing ≡ None

abbrev pub Gives : (old new : WorldValue) → ServerId → Option Outputs → (before after : List Line)
    → Option Listing → Type 0
Gives old new server None before after listing = GivesNothing old new before after listing
Gives old new server (Some outs) before after listing =
    GivesAll old new server outs before after listing
