-- No field has a line end in it.
use Rattle.std.proofs.Common.{◌≡◌, ℕ, zero, suc, ◌+◌, ◌/◌, ◌%◌, Bool, true, false, cond, eqb, ltb, List, [], ◌∷◌, ◌++◌, get_or, refl, arith}
use Rattle.std.specs.Prelude.{◌==◌, ◌||◌, decimal, codes}
use Rattle.std.specs.List.{AllByRecursion, flat_map}
use Rattle.std.specs.Fmt.{digit_glyph, digits_onto, digits}
use Rattle.std.proofs.lemmas.Bool.{eqb-false, or_parts}
use Rattle.hex.specs.Hex.{encode_lower, encode_with, lower_digits}
use Rattle.harp_types.specs.Procedures.{procedure_of, procedure_name}
use Rattle.harp_types.specs.Server.{number_of}
use Rattle.harp_types.specs.View.{View}
use Rattle.harp_types.specs.declared.state.Mode.{Mode}
use Rattle.harp_types.specs.declared.state.Mode.TheVariants as mode
use Rattle.harp_types.specs.declared.state.Role.{Role}
use Rattle.harp_types.specs.declared.state.Role.TheVariants as role
use Rattle.harp_types.specs.declared.state.Held.{Held}
use Rattle.harp_types.specs.declared.state.Held.TheVariants as held
use Rattle.harp_types.specs.declared.state.StateLine.{StateLine}
use Rattle.harp_types.specs.declared.attr.Time.{Time}
use Rattle.harp_types.specs.declared.attr.SetAttr.{SetAttr}
use Rattle.harp_types.specs.declared.attr.Attr.{Attr}
use Rattle.harp_types.specs.declared.call.Call.{Call}
use Rattle.harp_types.specs.declared.call.Call.TheVariants as call
use Rattle.harp_types.specs.declared.procedure.Procedure.{Procedure}
use Rattle.harp_types.specs.declared.procedure.Procedure.TheVariants as procedure
use Rattle.harp_types.specs.declared.cred.Cred.{Cred}
use Rattle.harp_types.specs.declared.reply.DirEntry.{DirEntry}
use Rattle.harp_types.specs.declared.reply.Reply.{Reply}
use Rattle.harp_types.specs.declared.reply.Reply.TheVariants as reply
use Rattle.text_spelling.specs.Text.{left, is_left_time, hex_text, octal, time_text, number_field, mode_field, time_field, later, mtime_on, atime_on, size_on, gid_on, uid_on, set_attr_text, fields_text, call_text, kind_number, status_number, attr_owner, attr_extent, attr_times, attr_text, entry_text, page_end, reply_text, spaced, comma, is_implied, told_text, cred_text}
use Rattle.text_spelling.specs.Lines.{IsOneLine, view_text, mode_text, role_text, held_text, state_text}

pub append : (x y : List ℕ) → IsOneLine x → IsOneLine y → IsOneLine (x ++ y)
append [] y p q = q
append (b ∷ x) y p q = (p.0, append x y p.1 q)

pub choice : (b : Bool) (x y : List ℕ) → IsOneLine x → IsOneLine y → IsOneLine (cond b x y)
choice true x y p q = p
choice false x y p q = q

glyph : (d : ℕ) → digit_glyph false d ≡ 10 → ⊥
glyph d e = by (ltb d 10) e
  where
    by : (b : Bool) → cond b (48 + d) (87 + d) ≡ 10 → ⊥
    by true e = absurd (omega arith)
    by false e = absurd (omega arith)

onto : (k base n : ℕ) (text : List ℕ) → IsOneLine text → IsOneLine (digits_onto k base false n text)
onto zero base n text p = p
onto (suc k) base n text p =
    choice (eqb (n / base) 0) _ _ (glyph (n % base), p)
    (onto k base (n / base) (digit_glyph false (n % base) ∷ text) (glyph (n % base), p))

numeral : (base n : ℕ) → IsOneLine (digits base false n)
unfolding digits
numeral base n = onto 64 base n [] tt

pub number : (n : ℕ) → IsOneLine (decimal n)
number n = numeral 10 n

octals : (n : ℕ) → IsOneLine (octal n)
unfolding octal
octals n = numeral 8 n

-- whether a byte ends a line
abbrev feeds : List ℕ → Bool
feeds [] = false
feeds (b ∷ text) = (b == 10) || feeds text

-- a text whose bytes are known
pub known : (text : List ℕ) → feeds text ≡ false → IsOneLine text
known [] e = tt
known (b ∷ text) e = let p =
    or_parts (b == 10) (feeds text) e in (eqb-false b 10 p.0, known text p.1)

-- a byte of a text
byte : (text : List ℕ) (v : ℕ) → IsOneLine text → get_or text v 0 ≡ 10 → ⊥
byte [] v p e = omega (arith, e)
byte (b ∷ text) zero p e = p.0 e
byte (b ∷ text) (suc v) p e = byte text v p.1 e

hex_digit : (v : ℕ) → get_or lower_digits v 0 ≡ 10 → ⊥
hex_digit v e = byte lower_digits v (known lower_digits refl) e

pairs : (bytes : List ℕ) → IsOneLine (encode_lower bytes)
unfolding encode_with
pairs [] = tt
pairs (b ∷ bytes) = (hex_digit (b / 16), (hex_digit (b % 16), pairs bytes))

pub name : (bytes : List ℕ) → IsOneLine (hex_text bytes)
unfolding hex_text
name [] = (λ e. absurd (omega arith), tt)
name (b ∷ bytes) = pairs (b ∷ bytes)

pub space : (word : List ℕ) → IsOneLine word → IsOneLine (spaced word)
space word p = (λ e. absurd (omega arith), p)

comma_line : (field : List ℕ) → IsOneLine field → IsOneLine (comma field)
comma_line field p = (λ e. absurd (omega arith), p)

pub colon : (text : List ℕ) → IsOneLine text → IsOneLine (58 ∷ text)
colon text p = (λ e. absurd (omega arith), p)

-- words behind a text
abbrev worded : List ℕ → List (List ℕ) → List ℕ
worded text [] = text
worded text (w ∷ ws) = worded (text ++ spaced w) ws

pub words : (text : List ℕ) (ws : List (List ℕ)) → IsOneLine text → AllByRecursion IsOneLine ws
    → IsOneLine (worded text ws)
words text [] p all = p
words text (w ∷ ws) p all =
    words (text ++ spaced w) ws (append text (spaced w) p (space w all.0)) all.1

-- fields behind a text
abbrev fielded : List ℕ → List (List ℕ) → List ℕ
fielded text [] = text
fielded text (f ∷ fs) = fielded (text ++ comma f) fs

fields : (text : List ℕ) (fs : List (List ℕ)) → IsOneLine text → AllByRecursion IsOneLine fs
    → IsOneLine (fielded text fs)
fields text [] p all = p
fields text (f ∷ fs) p all =
    fields (text ++ comma f) fs (append text (comma f) p (comma_line f all.0)) all.1

time : (t : Time) → IsOneLine (time_text t)
unfolding time_text
time t = append (decimal t.seconds) (58 ∷ decimal t.micros) (number t.seconds)
    (colon (decimal t.micros) (number t.micros))

pub dash : IsOneLine (45 ∷ [])
dash = (λ e. absurd (omega arith), tt)

set_number : (n : ℕ) → IsOneLine (number_field n)
unfolding number_field
set_number n = choice (n == left) (45 ∷ []) (decimal n) dash (number n)

set_mode : (n : ℕ) → IsOneLine (mode_field n)
unfolding mode_field
set_mode n = choice (n == left) (45 ∷ []) (octal n) dash (octals n)

set_time : (t : Time) → IsOneLine (time_field t)
unfolding time_field
set_time t = choice (is_left_time t) (45 ∷ []) (time_text t) dash (time t)

later_line : (given : Bool) (field : List ℕ) → IsOneLine field → IsOneLine (later given field)
unfolding later
later_line given field p = choice given (comma field) [] (comma_line field p) tt

set_attr : (a : SetAttr) → IsOneLine (set_attr_text a)
unfolding set_attr_text
set_attr a =
    let uid = later (uid_on a) (number_field a.uid) in
    let gid = later (gid_on a) (number_field a.gid) in
    let size = later (size_on a) (number_field a.size) in
    let atime = later (atime_on a) (time_field a.atime) in
    let mtime = later (mtime_on a) (time_field a.mtime) in
    let one = append (mode_field a.mode) uid (set_mode a.mode)
    (later_line (uid_on a) (number_field a.uid) (set_number a.uid)) in
    let two = append (mode_field a.mode ++ uid) gid one
    (later_line (gid_on a) (number_field a.gid) (set_number a.gid)) in
    let three = append ((mode_field a.mode ++ uid) ++ gid) size two
    (later_line (size_on a) (number_field a.size) (set_number a.size)) in
    let four = append (((mode_field a.mode ++ uid) ++ gid) ++ size) atime three
    (later_line (atime_on a) (time_field a.atime) (set_time a.atime)) in
    append ((((mode_field a.mode ++ uid) ++ gid) ++ size) ++ atime) mtime four
    (later_line (mtime_on a) (time_field a.mtime) (set_time a.mtime))

procedure_line : (p : Procedure) → IsOneLine (procedure_name p)
procedure_line procedure.Null = known (procedure_name procedure.Null) refl
procedure_line procedure.GetAttr = known (procedure_name procedure.GetAttr) refl
procedure_line procedure.SetAttr = known (procedure_name procedure.SetAttr) refl
procedure_line procedure.Lookup = known (procedure_name procedure.Lookup) refl
procedure_line procedure.ReadLink = known (procedure_name procedure.ReadLink) refl
procedure_line procedure.Read = known (procedure_name procedure.Read) refl
procedure_line procedure.Write = known (procedure_name procedure.Write) refl
procedure_line procedure.Create = known (procedure_name procedure.Create) refl
procedure_line procedure.Remove = known (procedure_name procedure.Remove) refl
procedure_line procedure.Rename = known (procedure_name procedure.Rename) refl
procedure_line procedure.Link = known (procedure_name procedure.Link) refl
procedure_line procedure.SymLink = known (procedure_name procedure.SymLink) refl
procedure_line procedure.MkDir = known (procedure_name procedure.MkDir) refl
procedure_line procedure.RmDir = known (procedure_name procedure.RmDir) refl
procedure_line procedure.ReadDir = known (procedure_name procedure.ReadDir) refl
procedure_line procedure.StatFs = known (procedure_name procedure.StatFs) refl

call_fields : (c : Call) → IsOneLine (fields_text c)
call_fields call.Null = tt
call_fields (call.GetAttr handle) = words [] (decimal handle ∷ []) tt (number handle, tt)
call_fields (call.SetAttr handle attr) =
    words [] (decimal handle ∷ set_attr_text attr ∷ []) tt (number handle, (set_attr attr, tt))
call_fields (call.Lookup dir n) =
    words [] (decimal dir ∷ hex_text n ∷ []) tt (number dir, (name n, tt))
call_fields (call.ReadLink handle) = words [] (decimal handle ∷ []) tt (number handle, tt)
call_fields (call.Read handle offset count) =
    words [] (decimal handle ∷ decimal offset ∷ decimal count ∷ []) tt
    (number handle, (number offset, (number count, tt)))
call_fields (call.Write handle offset bytes) =
    words [] (decimal handle ∷ decimal offset ∷ hex_text bytes ∷ []) tt
    (number handle, (number offset, (name bytes, tt)))
call_fields (call.Create dir n attr) =
    words [] (decimal dir ∷ hex_text n ∷ set_attr_text attr ∷ []) tt
    (number dir, (name n, (set_attr attr, tt)))
call_fields (call.Remove dir n) =
    words [] (decimal dir ∷ hex_text n ∷ []) tt (number dir, (name n, tt))
call_fields (call.Rename dir n to_dir to_name) =
    words [] (decimal dir ∷ hex_text n ∷ decimal to_dir ∷ hex_text to_name ∷ []) tt
    (number dir, (name n, (number to_dir, (name to_name, tt))))
call_fields (call.Link handle dir n) =
    words [] (decimal handle ∷ decimal dir ∷ hex_text n ∷ []) tt
    (number handle, (number dir, (name n, tt)))
call_fields (call.SymLink dir n text attr) =
    words [] (decimal dir ∷ hex_text n ∷ hex_text text ∷ set_attr_text attr ∷ []) tt
    (number dir, (name n, (name text, (set_attr attr, tt))))
call_fields (call.MkDir dir n attr) =
    words [] (decimal dir ∷ hex_text n ∷ set_attr_text attr ∷ []) tt
    (number dir, (name n, (set_attr attr, tt)))
call_fields (call.RmDir dir n) =
    words [] (decimal dir ∷ hex_text n ∷ []) tt (number dir, (name n, tt))
call_fields (call.ReadDir dir cookie count) =
    words [] (decimal dir ∷ decimal cookie ∷ decimal count ∷ []) tt
    (number dir, (number cookie, (number count, tt)))
call_fields (call.StatFs handle) = words [] (decimal handle ∷ []) tt (number handle, tt)

pub call_line : (c : Call) → IsOneLine (call_text c)
unfolding call_text
call_line c =
    append (procedure_name (procedure_of c)) (fields_text c) (procedure_line (procedure_of c))
    (call_fields c)

pub attr : (a : Attr) → IsOneLine (attr_text a)
unfolding attr_text attr_owner attr_extent attr_times
attr a =
    let owner = fields (decimal (kind_number a.kind))
    (octal a.mode ∷ decimal a.links ∷ decimal a.uid ∷ decimal a.gid ∷ [])
    (number (kind_number a.kind))
    (octals a.mode, (number a.links, (number a.uid, (number a.gid, tt)))) in
    let extent = fields (comma (decimal a.size)) (decimal a.blocks ∷ decimal a.fileid ∷ [])
    (comma_line (decimal a.size) (number a.size)) (number a.blocks, (number a.fileid, tt)) in
    let times = fields (comma (time_text a.atime)) (time_text a.mtime ∷ time_text a.ctime ∷ [])
    (comma_line (time_text a.atime) (time a.atime)) (time a.mtime, (time a.ctime, tt)) in
    append (attr_owner a ++ attr_extent a) (attr_times a)
    (append (attr_owner a) (attr_extent a) owner extent) times

entry : (e : DirEntry) → IsOneLine (entry_text e)
unfolding entry_text
entry e =
    append (decimal e.fileid ++ 58 ∷ hex_text e.name) (58 ∷ decimal e.cookie)
    (append (decimal e.fileid) (58 ∷ hex_text e.name) (number e.fileid)
    (colon (hex_text e.name) (name e.name))) (colon (decimal e.cookie) (number e.cookie))

entries : (es : List DirEntry) → IsOneLine (flat_map (λ e. spaced (entry_text e)) es)
entries [] = tt
entries (e ∷ es) =
    append (spaced (entry_text e)) (flat_map (λ e. spaced (entry_text e)) es)
    (space (entry_text e) (entry e)) (entries es)

last_page : (eof : Bool) → IsOneLine (page_end eof)
last_page true = known (codes "eof") refl
last_page false = known (codes "more") refl

pub reply_line : (r : Reply) → IsOneLine (reply_text r)
unfolding reply_text
reply_line (reply.Refused status) =
    words (codes "no") (decimal (status_number status) ∷ []) (known (codes "no") refl)
    (number (status_number status), tt)
reply_line reply.Done = known (codes "done") refl
reply_line (reply.Attr a) =
    words (codes "attr") (attr_text a ∷ []) (known (codes "attr") refl) (attr a, tt)
reply_line (reply.Node handle a) =
    words (codes "node") (decimal handle ∷ attr_text a ∷ []) (known (codes "node") refl)
    (number handle, (attr a, tt))
reply_line (reply.Path text) =
    words (codes "path") (hex_text text ∷ []) (known (codes "path") refl) (name text, tt)
reply_line (reply.Bytes a bytes) =
    words (codes "data") (attr_text a ∷ hex_text bytes ∷ []) (known (codes "data") refl)
    (attr a, (name bytes, tt))
reply_line (reply.Page es eof) =
    let listed = flat_map (λ e. spaced (entry_text e)) es in
    words (codes "dir" ++ listed) (page_end eof ∷ [])
    (append (codes "dir") listed (known (codes "dir") refl) (entries es)) (last_page eof, tt)
reply_line (reply.Space transfer block blocks free available) =
    words (codes "fs") (decimal transfer ∷ decimal block ∷ decimal blocks ∷ decimal free
    ∷ decimal available ∷ []) (known (codes "fs") refl)
    (number transfer, (number block, (number blocks, (number free, (number available, tt)))))

pub cred_line : (c : Cred) → IsOneLine (cred_text c)
unfolding cred_text
cred_line c =
    choice (is_implied c) [] (told_text c) tt
    (words (codes " as") (decimal c.uid ∷ decimal c.gid ∷ []) (known (codes " as") refl)
    (number c.uid, (number c.gid, tt)))

-- a text, a credential, and a call
pub called : (text : List ℕ) (cred : Cred) (c : Call) → IsOneLine text
    → IsOneLine (text ++ cred_text cred ++ spaced (call_text c))
called text cred c p =
    append (text ++ cred_text cred) (spaced (call_text c))
    (append text (cred_text cred) p (cred_line cred))
    (space (call_text c) (call_line c))

pub view_line : (v : View) → IsOneLine (view_text v)
unfolding view_text
view_line v =
    append (decimal v.count) (46 ∷ decimal (number_of v.coordinator)) (number v.count)
    (λ e. absurd (omega arith), number (number_of v.coordinator))

mode_line : (m : Mode) → IsOneLine (mode_text m)
mode_line mode.Rests = known (codes "rests") refl
mode_line mode.Calls = known (codes "calls") refl
mode_line mode.Joined = known (codes "joined") refl
mode_line mode.Pulls = known (codes "pulls") refl
mode_line mode.Waits = known (codes "waits") refl
mode_line mode.Open = known (codes "open") refl
mode_line mode.Live = known (codes "live") refl

role_line : (r : Role) → IsOneLine (role_text r)
role_line (role.Leads partner) =
    words (codes "leads") (decimal (number_of partner) ∷ []) (known (codes "leads") refl)
    (number (number_of partner), tt)
role_line (role.Follows leader) =
    words (codes "follows") (decimal (number_of leader) ∷ []) (known (codes "follows") refl)
    (number (number_of leader), tt)
role_line role.Outside = known (codes "outside -") refl

pub held_line : (h : Held) → IsOneLine (held_text h)
held_line held.Empty = known (codes "empty") refl
held_line held.Held = known (codes "held") refl
held_line held.Lost = known (codes "lost") refl

pub state_line : (s : StateLine) → IsOneLine (state_text s)
unfolding state_text
state_line s =
    append (front s) (totals s)
    (words (mode_text s.mode) (view_text s.promised ∷ view_text s.accepted ∷ role_text s.role
    ∷ held_text s.held ∷ []) (mode_line s.mode)
    (view_line s.promised, (view_line s.accepted, (role_line s.role, (held_line s.held, tt)))))
    (words (spaced (decimal s.base)) (decimal s.lb ∷ decimal s.ap ∷ decimal s.cp ∷ decimal s.top
    ∷ []) (space (decimal s.base) (number s.base))
    (number s.lb, (number s.ap, (number s.cp, (number s.top, tt)))))
  where
    front : StateLine → List ℕ
    front s = mode_text s.mode ++ spaced (view_text s.promised) ++ spaced (view_text s.accepted)
        ++ spaced (role_text s.role) ++ spaced (held_text s.held)

    totals : StateLine → List ℕ
    totals s = spaced (decimal s.base) ++ spaced (decimal s.lb) ++ spaced (decimal s.ap)
        ++ spaced (decimal s.cp) ++ spaced (decimal s.top)
