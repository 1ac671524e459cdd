-- How long the texts of lines are.
use Rattle.std.proofs.Common.{◌≡◌, ℕ, zero, suc, ◌+◌, ◌*◌, ◌/◌, ◌%◌, ◌<◌, ◌≤◌, ◌^◌, ◌⊎◌, ◌==◌, Bool, true, false, List, [], ◌∷◌, ◌++◌, length, Option, Some, None, refl, ap, ◌∙◌, inl, inr, arith, ⊎_elim, if◌then◌else◌}
use Rattle.std.specs.Prelude.{codes, decimal}
use Rattle.std.specs.Fmt.{digits}
use Rattle.std.specs.List.{flat_map}
use Rattle.std.proofs.lemmas.Bool.{cases_lt, cond_both}
use Rattle.std.proofs.lemmas.Fmt.{length-decimal-le}
use Rattle.std.proofs.lemmas.List.{length-append}
use Rattle.hex.proofs.HexLemmas.{length-encode_with}
use Rattle.hex.specs.Hex.{lower_digits}
use Rattle.schedule_text.proofs.Octal.{octal_digit, octal_step}
use Rattle.harp_base.specs.Attributes.{AttrFits}
use Rattle.harp_types.specs.Server.{number_of}
use Rattle.harp_types.specs.View.{View}
use Rattle.harp_types.specs.declared.attr.Attr.{Attr}
use Rattle.harp_types.specs.declared.attr.Kind.{Kind}
use Rattle.harp_types.specs.declared.attr.Kind.TheVariants as kind
use Rattle.harp_types.specs.declared.attr.SetAttr.{SetAttr}
use Rattle.harp_types.specs.declared.attr.Time.{Time}
use Rattle.harp_types.specs.declared.call.Call.{Call}
use Rattle.harp_types.specs.declared.call.Call.TheVariants as call
use Rattle.harp_types.specs.declared.cred.Cred.{Cred}
use Rattle.harp_types.specs.declared.reply.DirEntry.{DirEntry}
use Rattle.harp_types.specs.declared.reply.Reply.{Reply}
use Rattle.harp_types.specs.declared.reply.Reply.TheVariants as reply
use Rattle.harp_types.specs.declared.reply.Status.{Status}
use Rattle.harp_types.specs.declared.reply.Status.TheVariants as status
use Rattle.harp_types.specs.declared.server.ServerId.{ServerId}
use Rattle.harp_types.specs.declared.server.ServerId.TheVariants as server
use Rattle.text_spelling.specs.Fits.{CallFits, CredFits, SetAttrFits}
use Rattle.text_spelling.specs.Text.{attr_extent, attr_owner, attr_text, attr_times, atime_on, call_text, cred_text, entry_text, gid_on, hex_text, is_implied, is_left_time, kind_number, later, left, mode_field, mtime_on, number_field, octal, page_end, reply_text, set_attr_text, size_on, spaced, status_number, time_field, time_text, told_text, uid_on}
use Rattle.file_tree.specs.Outcome.{entry_size}
use Rattle.accept_laws.specs.Replies.{DirEntryFits, IsBrief, PageFits, ReplyWithin}

-- ---- numbers

pub short_count : (n : ℕ) → n < 10 ^ 18 → length (decimal n) ≤ 18
short_count n l = length-decimal-le 18 n (omega arith) l (omega (arith, l))

pub short_number : (n : ℕ) → n < 2 ^ 32 → length (decimal n) ≤ 10
short_number n l = length-decimal-le 10 n (omega arith) (omega (arith, l)) (omega (arith, l))

pub short_server : (s : ServerId) → length (decimal (number_of s)) ≤ 10
short_server server.Zero = short_number 0 (omega arith)
short_server server.One = short_number 1 (omega arith)
short_server server.Two = short_number 2 (omega arith)

eights : ℕ → ℕ
eights zero = 8
eights (suc k) = 8 * eights k

octal_one : (n : ℕ) → n < 8 → length (digits 8 false n) ≡ 1
octal_one n l = ap length (octal_digit n l)

octal_few : (k n : ℕ) → n < eights k → n < 2 ^ 64 → length (digits 8 false n) ≤ suc k
unfolding eights
octal_few zero n l small = let one = octal_one n l in omega (arith, one)
octal_few (suc k) n l small = elim (cases_lt n 8) [
  | inl low ↦ let one = octal_one n low in omega (arith, one)
  | inr high ↦
      let rest = octal_few k (n / 8) (omega (arith, l)) (omega (arith, small)) in
      let is = ap (λ (t : List ℕ). length t) (octal_step n high small) in
      let long = length-append (digits 8 false (n / 8)) ((48 + n % 8) ∷ []) in
      omega (arith, rest, is, long)
]

short_octal : (n : ℕ) → n < 2 ^ 32 → length (octal n) ≤ 11
unfolding octal eights
short_octal n l = octal_few 10 n (omega (arith, l)) (omega (arith, l))

-- ---- bytes

pub short_hex : (bytes : List ℕ) → length (hex_text bytes) ≤ 2 * length bytes + 1
unfolding hex_text
short_hex [] = omega arith
short_hex (b ∷ bytes) = let long = length-encode_with lower_digits (b ∷ bytes) in omega (arith, long)

-- ---- attributes

short_time : (t : Time) → t.seconds < 2 ^ 32 → t.micros < 2 ^ 32 → length (time_text t) ≤ 21
unfolding time_text
short_time t s m =
    let a = short_number t.seconds s in
    let b = short_number t.micros m in
    let long = length-append (decimal t.seconds) (58 ∷ decimal t.micros) in
    omega (arith, a, b, long)

kind_small : (k : Kind) → kind_number k < 2 ^ 32
kind_small kind.Regular = omega arith
kind_small kind.Directory = omega arith
kind_small kind.Link = omega arith

pub short_attr : (a : Attr) → AttrFits a → length (attr_text a) ≤ 200
unfolding attr_text attr_owner attr_extent attr_times
short_attr a f =
    let k = short_number (kind_number a.kind) (kind_small a.kind) in
    let low = f.0 in
    let m = short_octal a.mode (omega (arith, low)) in
    let n = short_number a.links f.1 in
    let u = short_number a.uid f.2 in
    let g = short_number a.gid f.3 in
    let s = short_number a.size f.4 in
    let b = short_number a.blocks f.5 in
    let i = short_number a.fileid f.6 in
    let x = short_time a.atime f.7.0 f.7.1 in
    let y = short_time a.mtime f.8.0 f.8.1 in
    let z = short_time a.ctime f.9.0 f.9.1 in
    simp length-append (omega (arith, k, m, n, u, g, s, b, i, x, y, z))

-- ---- fields of SETATTR

short_field : (n : ℕ) → n < 2 ^ 32 → length (number_field n) ≤ 10
unfolding number_field
short_field n l =
    cond_both (n == left) (codes "-") (decimal n) (λ (t : List ℕ). length t ≤ 10)
    (λ e. omega arith) (λ e. short_number n l)

short_mode : (n : ℕ) → n < 2 ^ 32 → length (mode_field n) ≤ 11
unfolding mode_field
short_mode n l =
    cond_both (n == left) (codes "-") (octal n) (λ (t : List ℕ). length t ≤ 11)
    (λ e. omega arith) (λ e. short_octal n l)

short_moment : (t : Time) → t.seconds < 2 ^ 32 → t.micros < 2 ^ 32 → length (time_field t) ≤ 21
unfolding time_field
short_moment t s m =
    cond_both (is_left_time t) (codes "-") (time_text t) (λ (t : List ℕ). length t ≤ 21)
    (λ e. omega arith) (λ e. short_time t s m)

short_later : (b : Bool) (field : List ℕ) → length (later b field) ≤ 1 + length field
unfolding later
short_later true field = omega arith
short_later false field = omega arith

short_set : (a : SetAttr) → SetAttrFits a → length (set_attr_text a) ≤ 100
unfolding set_attr_text
short_set a f =
    let left_or : a.mode < 2 ^ 32 =
    ⊎_elim (λ (l : a.mode < 4096). omega (arith, l)) (λ (e : a.mode ≡ left). omega (arith, e))
    f.mode in
    let m = short_mode a.mode left_or in
    let u = short_field a.uid f.uid in
    let g = short_field a.gid f.gid in
    let s = short_field a.size f.size in
    let x = short_moment a.atime f.atime.0 f.atime.1 in
    let y = short_moment a.mtime f.mtime.0 f.mtime.1 in
    let lu = short_later (uid_on a) (number_field a.uid) in
    let lg = short_later (gid_on a) (number_field a.gid) in
    let ls = short_later (size_on a) (number_field a.size) in
    let lx = short_later (atime_on a) (time_field a.atime) in
    let ly = short_later (mtime_on a) (time_field a.mtime) in
    simp length-append (omega (arith, m, u, g, s, x, y, lu, lg, ls, lx, ly))

-- ---- calls

pub short_call : (c : Call) → CallFits c → length (call_text c) ≤ 16700
unfolding call_text
short_call call.Null f = omega arith
short_call (call.GetAttr handle) f =
    let h = short_number handle f in simp length-append (omega (arith, h))
short_call (call.SetAttr handle attr) f =
    let h = short_number handle f.0 in
    let a = short_set attr f.1 in
    simp length-append (omega (arith, h, a))
short_call (call.Lookup dir name) f =
    let d = short_number dir f.0 in
    let n = short_hex name in
    let few = f.1.few in
    simp length-append (omega (arith, d, n, few))
short_call (call.ReadLink handle) f =
    let h = short_number handle f in simp length-append (omega (arith, h))
short_call (call.Read handle offset count) f =
    let h = short_number handle f.0 in
    let o = short_number offset f.1 in
    let c = short_number count f.2 in
    simp length-append (omega (arith, h, o, c))
short_call (call.Write handle offset bytes) f =
    let h = short_number handle f.0 in
    let o = short_number offset f.1 in
    let b = short_hex bytes in
    let few = f.2.few in
    simp length-append (omega (arith, h, o, b, few))
short_call (call.Create dir name attr) f =
    let d = short_number dir f.0 in
    let n = short_hex name in
    let few = f.1.few in
    let a = short_set attr f.2 in
    simp length-append (omega (arith, d, n, few, a))
short_call (call.Remove dir name) f =
    let d = short_number dir f.0 in
    let n = short_hex name in
    let few = f.1.few in
    simp length-append (omega (arith, d, n, few))
short_call (call.Rename dir name to_dir to_name) f =
    let d = short_number dir f.0 in
    let n = short_hex name in
    let few = f.1.few in
    let e = short_number to_dir f.2 in
    let m = short_hex to_name in
    let few' = f.3.few in
    simp length-append (omega (arith, d, n, few, e, m, few'))
short_call (call.Link handle dir name) f =
    let h = short_number handle f.0 in
    let d = short_number dir f.1 in
    let n = short_hex name in
    let few = f.2.few in
    simp length-append (omega (arith, h, d, n, few))
short_call (call.SymLink dir name text attr) f =
    let d = short_number dir f.0 in
    let n = short_hex name in
    let few = f.1.few in
    let t = short_hex text in
    let few' = f.2.few in
    let a = short_set attr f.3 in
    simp length-append (omega (arith, d, n, few, t, few', a))
short_call (call.MkDir dir name attr) f =
    let d = short_number dir f.0 in
    let n = short_hex name in
    let few = f.1.few in
    let a = short_set attr f.2 in
    simp length-append (omega (arith, d, n, few, a))
short_call (call.RmDir dir name) f =
    let d = short_number dir f.0 in
    let n = short_hex name in
    let few = f.1.few in
    simp length-append (omega (arith, d, n, few))
short_call (call.ReadDir dir cookie count) f =
    let d = short_number dir f.0 in
    let k = short_number cookie f.1 in
    let c = short_number count f.2 in
    simp length-append (omega (arith, d, k, c))
short_call (call.StatFs handle) f =
    let h = short_number handle f in simp length-append (omega (arith, h))

pub short_read : (handle offset count : ℕ) → CallFits (call.Read handle offset count)
    → length (call_text (call.Read handle offset count)) ≤ 60
unfolding call_text
short_read handle offset count f =
    let h = short_number handle f.0 in
    let o = short_number offset f.1 in
    let c = short_number count f.2 in
    simp length-append (omega (arith, h, o, c))

pub short_list : (dir cookie count : ℕ) → CallFits (call.ReadDir dir cookie count)
    → length (call_text (call.ReadDir dir cookie count)) ≤ 60
unfolding call_text
short_list dir cookie count f =
    let d = short_number dir f.0 in
    let k = short_number cookie f.1 in
    let c = short_number count f.2 in
    simp length-append (omega (arith, d, k, c))

pub short_cred : (c : Cred) → CredFits c → length (cred_text c) ≤ 30
unfolding cred_text
short_cred c f =
    let u = short_number c.uid f.0 in
    let g = short_number c.gid f.1 in
    cond_both (is_implied c) [] (told_text c) (λ (t : List ℕ). length t ≤ 30) (λ e. omega arith)
    (λ e. simp length-append (omega (arith, u, g)))

-- ---- replies

status_small : (s : Status) → status_number s < 2 ^ 32
status_small status.Perm = omega arith
status_small status.NoEnt = omega arith
status_small status.Io = omega arith
status_small status.NxIo = omega arith
status_small status.Acces = omega arith
status_small status.Exist = omega arith
status_small status.NotDir = omega arith
status_small status.IsDir = omega arith
status_small status.FBig = omega arith
status_small status.NoSpc = omega arith
status_small status.NameTooLong = omega arith
status_small status.NotEmpty = omega arith
status_small status.Stale = omega arith

short_entry : (e : DirEntry) → DirEntryFits e → length (entry_text e) + 1 ≤ 2 * entry_size e
unfolding entry_text
short_entry e f =
    let i = short_number e.fileid f.fileid in
    let c = short_number e.cookie f.cookie in
    let n = short_hex e.name in
    simp length-append (omega (arith, i, c, n))

short_page : (most : ℕ) (es : List DirEntry) → PageFits most es
    → length (flat_map (λ e. spaced (entry_text e)) es) ≤ 2 * most
short_page most [] h = omega arith
short_page most (e ∷ es) h =
    let rest = short_page h.1 es h.3 in
    let one = short_entry e h.0 in
    let room = h.2 in
    let long = length-append (spaced (entry_text e)) (flat_map (λ e. spaced (entry_text e)) es) in
    omega (arith, rest, one, room, long)

short_end : (b : Bool) → length (page_end b) ≤ 4
short_end true = omega arith
short_end false = omega arith

pub short_reply : (r : Reply) → ReplyWithin r → length (reply_text r) ≤ 16700
unfolding reply_text
short_reply (reply.Refused s) h =
    let n = short_number (status_number s) (status_small s) in
    simp length-append (omega (arith, n))
short_reply reply.Done h = omega arith
short_reply (reply.Attr attr) h =
    let a = short_attr attr h in simp length-append (omega (arith, a))
short_reply (reply.Node handle attr) h =
    let n = short_number handle h.0 in
    let a = short_attr attr h.1 in
    simp length-append (omega (arith, n, a))
short_reply (reply.Path text) h =
    let t = short_hex text in
    let few = h.0 in
    simp length-append (omega (arith, t, few))
short_reply (reply.Bytes attr bytes) h =
    let a = short_attr attr h.0 in
    let b = short_hex bytes in
    let few = h.1 in
    simp length-append (omega (arith, a, b, few))
short_reply (reply.Page entries eof) h =
    let p = short_page 8192 entries h in
    let e = short_end eof in
    simp length-append (omega (arith, p, e))
short_reply (reply.Space transfer block blocks free available) h =
    let a = short_number transfer h.0 in
    let b = short_number block h.1 in
    let c = short_number blocks h.2 in
    let d = short_number free h.3 in
    let e = short_number available h.4 in
    simp length-append (omega (arith, a, b, c, d, e))

pub brief_reply : (r : Reply) → ReplyWithin r → IsBrief r → length (reply_text r) ≤ 2200
unfolding reply_text
brief_reply (reply.Refused s) h b =
    let n = short_number (status_number s) (status_small s) in
    simp length-append (omega (arith, n))
brief_reply reply.Done h b = omega arith
brief_reply (reply.Attr attr) h b =
    let a = short_attr attr h in simp length-append (omega (arith, a))
brief_reply (reply.Node handle attr) h b =
    let n = short_number handle h.0 in
    let a = short_attr attr h.1 in
    simp length-append (omega (arith, n, a))
brief_reply (reply.Path text) h b =
    let t = short_hex text in
    let few = h.0 in
    simp length-append (omega (arith, t, few))
brief_reply (reply.Bytes attr bytes) h b = absurd b
brief_reply (reply.Page entries eof) h b = absurd b
brief_reply (reply.Space transfer block blocks free available) h b' =
    let a = short_number transfer h.0 in
    let b = short_number block h.1 in
    let c = short_number blocks h.2 in
    let d = short_number free h.3 in
    let e = short_number available h.4 in
    simp length-append (omega (arith, a, b, c, d, e))
