-- Limits of the service, and the numbers that stand for them, each in one place.
use Rattle.std.specs.Prelude.{ℕ}

-- ---- calls

-- the highest number of a client
abbrev pub last_client : ℕ
last_client = 4095

-- the most bytes of a name or a text in a call, before the server's own limits
abbrev pub longest_argument : ℕ
longest_argument = 4096

-- the most bytes that one call reads, writes or lists (MAXDATA, RFC 1094, section 2.3)
abbrev pub longest_transfer : ℕ
longest_transfer = 8192

-- a field of SETATTR with this value is left as it is (RFC 1094, section 2.3.6)
abbrev pub field_left : ℕ
field_left = 4294967295

-- ---- the tree

-- the most bytes of a name (MAXNAMLEN, RFC 1094, section 2.3)
abbrev pub longest_name : ℕ
longest_name = 255

-- the most bytes of the text of a symbolic link (MAXPATHLEN, RFC 1094, section 2.3)
abbrev pub longest_path : ℕ
longest_path = 1024

-- the most bytes of a file
abbrev pub largest_file : ℕ
largest_file = 2147483647

-- the bytes of a block
abbrev pub block_size : ℕ
block_size = 4096

-- the most blocks of all objects together
abbrev pub tree_blocks : ℕ
tree_blocks = 65536

-- the bytes that a directory has for each of its slots
abbrev pub slot_size : ℕ
slot_size = 264

-- the numbers of objects are below this one
abbrev pub object_numbers : ℕ
object_numbers = 4294967295

-- ---- the group

-- the most records that stand in a log
abbrev pub log_room : ℕ
log_room = 32768

-- how many milliseconds promises last where no boot said otherwise
abbrev pub first_promise : ℕ
first_promise = 2000

-- the most milliseconds between two servers' clocks
abbrev pub clock_skew : ℕ
clock_skew = 50

-- ---- texts

-- the most bytes of a line of a schedule or a trace
abbrev pub longest_line : ℕ
longest_line = 20000

-- the most lines of a schedule
abbrev pub most_lines : ℕ
most_lines = 50000
