-- Reading the fields of a line from left to right, with the place where no field goes on.
use Rattle.std.specs.Prelude.{◌≡◌, ℕ, zero, suc, ◌+◌, ◌-◌, ◌*◌, ◌==◌, Bool, true, false, ◌&&◌, not, nat_lt, nat_le, List, [], ◌∷◌, length, drop, slice_index, Option, Some, None, is_some, Result, Ok, Err, if◌then◌else◌}
use Rattle.std.specs.List.{take_while}
use Rattle.harp_types.specs.declared.server.ServerId.{ServerId}
use Rattle.harp_types.specs.declared.server.ServerId.TheVariants as server
use Rattle.harp_types.specs.declared.attr.Time.{Time}
use Rattle.harp_types.specs.declared.attr.SetAttr.{SetAttr}
use Rattle.schedule_text.specs.declared.fault.TextFault.{TextFault}
use Rattle.schedule_text.specs.declared.fault.TextFault.TheVariants.{Grammar, NoMemory}
use Rattle.text_spelling.specs.Text.{left, is_left_time}

infixl 10 ◌>>=◌
abbrev pub ◌>>=◌ : {A B : Type 0} → Result A TextFault → (A → Result B TextFault)
    → Result B TextFault
(Ok x) >>= f = f x
(Err e) >>= f = Err e

abbrev pub Fails : {Y : Type 0} → TextFault → Result Y TextFault → Type 0
Fails NoMemory read = Unit {0}
Fails (Grammar n) read = read ≡ Err (Grammar n)

-- what a function returned, seen by view, is what reading gives, unless memory ran out
abbrev pub Gives : {X Y : Type 0} → (X → Y) → Result X TextFault → Result Y TextFault → Type 0
Gives view (Ok x) read = read ≡ Ok (view x)
Gives view (Err e) read = Fails e read

-- a value and the place after it, or a fault
abbrev pub Read : Type 0 → Type 0
Read A = Result (A × ℕ) TextFault

-- reads from a place on
abbrev pub Reader : Type 0 → Type 0
Reader A = List ℕ → ℕ → Read A

-- ---- separators and words

abbrev pub space_at : List ℕ → ℕ → Result ℕ TextFault
space_at bytes at = if slice_index bytes at == 32 then Ok (at + 1) else Err (Grammar at)

-- a field behind a space
abbrev pub spaced_at : {A : Type 0} → Reader A → Reader A
spaced_at r bytes at = do
  from ← space_at bytes at
  r bytes from

abbrev pub not_space : ℕ → Bool
not_space b = not (b == 32)

-- the bytes up to a space or the end
abbrev pub word_at : List ℕ → ℕ → List ℕ
word_at bytes at = take_while not_space (drop at bytes)

-- a word ends here
abbrev pub EndsWord : List ℕ → Type 0
EndsWord [] = Unit {0}
EndsWord (b ∷ rest) = b ≡ 32

-- ---- numbers

-- the number with one more digit, where b is a digit and the number stays within most
abbrev pub longer : ℕ → ℕ → ℕ → ℕ → Option ℕ
longer base most n b =
    if nat_le 48 b && nat_lt b (48 + base)
    then (if nat_le (n * base + (b - 48)) most then Some (n * base + (b - 48)) else None)
    else None

-- digits while the number stays within most
unfoldable pub number_from : ℕ → ℕ → List ℕ → ℕ → ℕ → ℕ × ℕ
number_from base most [] n at = (n, at)
number_from base most (b ∷ rest) n at =
    elim (longer base most n b) [
      | None ↦ (n, at)
      | Some m ↦ number_from base most rest m (at + 1)
    ]

-- a number without a leading zero
unfoldable pub number_at : ℕ → ℕ → Reader ℕ
number_at base most bytes at =
    if slice_index bytes at == 48 then Ok (0, at + 1)
    else elim (longer base most 0 (slice_index bytes at)) [
      | None ↦ Err (Grammar at)
      | Some n ↦ Ok (number_from base most (drop (at + 1) bytes) n (at + 1))
    ]

-- a number below 2^32
abbrev pub u32_at : Reader ℕ
u32_at = number_at 10 4294967295

-- a number of at most 18 digits
abbrev pub count_at : Reader ℕ
count_at = number_at 10 999999999999999999

abbrev pub server_of : ℕ → Option ServerId
server_of b =
    if b == 48 then Some server.Zero
    else (if b == 49 then Some server.One
    else (if b == 50 then Some server.Two else None))

abbrev pub server_at : Reader ServerId
server_at bytes at =
    elim (server_of (slice_index bytes at)) [ None ↦ Err (Grammar at) | Some s ↦ Ok (s, at + 1) ]

-- ---- names

-- the value of a lower-case hexadecimal digit
abbrev pub hex_value : ℕ → Option ℕ
hex_value b =
    if nat_le 48 b && nat_le b 57 then Some (b - 48)
    else (if nat_le 97 b && nat_le b 102 then Some (b - 87) else None)

-- the byte of two digits
abbrev pub pair_of : Option ℕ → Option ℕ → Option ℕ
pair_of (Some high) (Some low) = Some (16 * high + low)
pair_of (Some high) None = None
pair_of None low = None

abbrev pub pair_at : List ℕ → ℕ → Option ℕ
pair_at bytes at =
    pair_of (hex_value (slice_index bytes at)) (hex_value (slice_index bytes (at + 1)))

-- pairs of digits from a place on, at most so many, and the place after them
unfoldable pub pairs_from : ℕ → List ℕ → ℕ → List ℕ × ℕ
pairs_from zero bytes at = ([], at)
pairs_from (suc room) bytes at =
    elim (pair_at bytes at) [
      | None ↦ ([], at)
      | Some b ↦ (b ∷ (pairs_from room bytes (at + 2)).0, (pairs_from room bytes (at + 2)).1)
    ]

-- whether one digit is left over
abbrev pub is_odd_at : ℕ → List ℕ → List ℕ × ℕ → Bool
is_odd_at most bytes x = nat_lt (length x.0) most && is_some (hex_value (slice_index bytes x.1))

-- at most so many bytes, or a dash for none
unfoldable pub hex_at : ℕ → Reader (List ℕ)
hex_at most bytes at =
    let x = pairs_from most bytes at in
    if slice_index bytes at == 45 then Ok ([], at + 1)
    else (if is_odd_at most bytes x then Err (Grammar (x.1 + 1))
    else (if x.1 == at then Err (Grammar at) else Ok x))

-- ---- the fields of SETATTR

abbrev pub left_time : Time
left_time = record { seconds = left; micros = left }

-- seconds and microseconds, not both of them left
unfoldable pub time_at : Reader Time
time_at bytes at = do
  s ← u32_at bytes at
  if slice_index bytes s.1 == 58
      then (do
        m ← number_at 10 (if s.0 == left then left - 1 else left) bytes (s.1 + 1)
        Ok (record { seconds = s.0; micros = m.0 }, m.1))
      else Err (Grammar s.1)

-- a dash, or the field
abbrev pub dash_or : {A : Type 0} → A → Reader A → Reader A
dash_or none r bytes at = if slice_index bytes at == 45 then Ok (none, at + 1) else r bytes at

unfoldable pub number_field_at : Reader ℕ
number_field_at = dash_or left (number_at 10 4294967294)

unfoldable pub mode_field_at : Reader ℕ
mode_field_at = dash_or left (number_at 8 4095)

unfoldable pub time_field_at : Reader Time
time_field_at = dash_or left_time time_at

-- whether a comma stands, where one has to stand if a field is due
abbrev pub comma_at : Bool → List ℕ → ℕ → Result Bool TextFault
comma_at due bytes at =
    if slice_index bytes at == 44 then Ok true
    else (if due then Err (Grammar at) else Ok false)

-- a field behind a comma, and whether it is left, so that a further one is due; or no field, where
-- none is due
abbrev pub later_at : {A : Type 0} → Reader A → (A → Bool) → A → Bool → Reader (A × Bool)
later_at r is_left none due bytes at = do
  comma ← comma_at due bytes at
  if comma
      then (do
        x ← r bytes (at + 1)
        Ok ((x.0, is_left x.0), x.1))
      else Ok ((none, false), at)

abbrev pub later_number_at : Bool → Reader (ℕ × Bool)
later_number_at = later_at number_field_at (λ n. n == left) left

unfoldable pub set_attr_at : Reader SetAttr
set_attr_at bytes at = do
  mode ← mode_field_at bytes at
  uid ← later_number_at false bytes mode.1
  gid ← later_number_at uid.0.1 bytes uid.1
  size ← later_number_at gid.0.1 bytes gid.1
  atime ← later_at time_field_at is_left_time left_time size.0.1 bytes size.1
  mtime ← later_at time_at is_left_time left_time atime.0.1 bytes atime.1
  Ok (
    record {
      mode = mode.0;
      uid = uid.0.0;
      gid = gid.0.0;
      size = size.0.0;
      atime = atime.0.0;
      mtime = mtime.0.0;
    },
    mtime.1,
  )
