-- What is read of a result is the reply that it was made of.
use Rattle.std.proofs.Common.{◌≡◌, ℕ, zero, suc, ◌+◌, ◌-◌, ◌%◌, ◌<◌, ◌≤◌, ◌^◌, Bool, true, false, eqb, List, [], ◌∷◌, ◌++◌, append_assoc, ap, arith, drop, inl, length, length-append, refl, Ok, Some, sym, ◌∙◌}
use Rattle.std.specs.List.{flat_map}
use Rattle.std.specs.Prelude.{slice_index}
use Rattle.std.proofs.lemmas.Bool.{eqb-true}
use Rattle.std.proofs.lemmas.List.{append-nil, length-drop, length-replicate}
use Rattle.harp_types.specs.declared.attr.Attr.{Attr}
use Rattle.harp_types.specs.declared.attr.Kind.{Kind}
use Rattle.harp_types.specs.declared.attr.Kind.TheVariants.{Regular, Directory, Link}
use Rattle.harp_types.specs.declared.call.Call.{Call}
use Rattle.harp_types.specs.declared.procedure.Procedure.{Procedure}
use Rattle.harp_types.specs.declared.procedure.Procedure.TheVariants as procedure
use Rattle.harp_types.specs.declared.reply.DirEntry.{DirEntry}
use Rattle.harp_types.specs.declared.reply.Reply.{Reply}
use Rattle.harp_types.specs.declared.reply.Reply.TheVariants as reply
use Rattle.harp_types.specs.declared.reply.Status.{Status}
use Rattle.harp_types.specs.declared.reply.Status.TheVariants as status
use Rattle.harp_base.specs.Attributes.{AttrFits}
use Rattle.harp_types.specs.Kinds.{kind_number}
use Rattle.harp_types.specs.Procedures.{procedure_of}
use Rattle.harp_base.specs.Fields.{AllFit, Read, Reader, ◌⊗◌, field_as, many_at, many_bytes, u32_at, u32_bytes}
use Rattle.harp_types.specs.Numbered.{value_with_number}
use Rattle.harp_base.specs.Replies.{EntryFits, ReplyFits, flag_number, flags}
use Rattle.harp_types.specs.Statuses.{status_number}
use Rattle.harp_types.specs.Statuses.{statuses}
use Rattle.harp_base.proofs.AttributeLaws.{time_codec, whole_kind}
use Rattle.harp_base.proofs.Codec.{IsCodec, drop_past, u32_codec}
use Rattle.harp_base.proofs.ListLaws.{many_again}
use Rattle.rpc_door.specs.ReadBack.{ModesFit, Parts, attr_of, done_at, entries_at, entry_at, fattr_at, number_of_at, page_at, parts_at, result_at, status_then}
use Rattle.rpc_door.specs.Results.{can_be_refused, entry_bytes, fattr_bytes, form_for, is_reply_to, result_of, result_to, type_bits}
use Rattle.rpc_door.specs.Xdr.{handle_at, handle_bytes, opaque_at, opaque_bytes, padding, words, zeros}
use Rattle.rpc_door.proofs.Handles.{handle_reader}
use Rattle.rpc_door.proofs.Readers.{opaque_reader}

-- ---- values that are read again

-- what is spelled so is read again
abbrev pub Undoes : {A : Type 0} → Reader A → A → List ℕ → Type 0
Undoes r x text = (bytes : List ℕ) (at : ℕ) (rest : List ℕ) → drop at bytes ≡ text ++ rest
    → r bytes at ≡ Ok (x, at + length text)

-- one part and then another
undoes_then : {A B : Type 0} (r : Reader A) (s : Reader B) (x : A) (y : B) (a b : List ℕ)
    → Undoes r x a → Undoes s y b → Undoes (r ⊗ s) (x, y) (a ++ b)
undoes_then r s x y a b p q bytes at rest e =
    let front = e ∙ append_assoc a b rest in
    let first = p bytes at (b ++ rest) front in
    let second = q bytes (at + length a) rest (drop_past bytes at a (b ++ rest) front) in
    let len : at + length a + length b ≡ at + length (a ++ b) = omega (arith, length-append a b) in
    rw (first, second, len) refl

undoes_made : {A B : Type 0} (f : A → B) (r : Reader A) (x : A) (text : List ℕ) → Undoes r x text
    → Undoes (field_as f r) (f x) text
undoes_made f r x text p bytes at rest e = rw (p bytes at rest e) refl

undoes_codec : {A : Type 0} {r : Reader A} {spell : A → List ℕ} {Fits : A → Type 0}
    → IsCodec r spell Fits → (x : A) → Fits x → Undoes r x (spell x)
undoes_codec codec x fits bytes at rest e = codec.again bytes at x rest fits e

undoes_word : (n : ℕ) → n < 2 ^ 32 → Undoes u32_at n (u32_bytes n)
undoes_word n fits = undoes_codec u32_codec n fits

undoes_words : (ns : List ℕ) → AllFit (λ n. n < 2 ^ 32) ns → Undoes (many_at u32_at (length ns)) ns (words ns)
unfolding many_bytes
undoes_words ns fits bytes at rest e = many_again u32_codec ns bytes at rest fits e

undoes_opaque : (most : ℕ) → most < 2 ^ 32 → (x : List ℕ) → length x ≤ most
    → Undoes (opaque_at most) x (opaque_bytes x)
unfolding opaque_bytes
undoes_opaque most small x few bytes at rest e =
    (opaque_reader most small).again bytes at x (opaque_bytes x) rest
    (zeros (padding (length x)), few, length-replicate (padding (length x)) 0, refl) e

undoes_handle : (n : ℕ) → n < 2 ^ 32 → Undoes handle_at n (handle_bytes n)
undoes_handle n fits bytes at rest e =
    handle_reader.again bytes at n (handle_bytes n) rest (inl (refl, fits)) e

undoes_number : {A : Type 0} (number : A → ℕ) (all : List A) (x : A) → number x < 2 ^ 32
    → value_with_number number all (number x) ≡ Some x
    → Undoes (number_of_at number all) x (u32_bytes (number x))
undoes_number number all x fits whole bytes at rest e =
    rw (undoes_word (number x) fits bytes at rest e, whole) refl

-- ---- attributes

abbrev parts_of : Attr → Parts
parts_of a = (
  (
    (
      (
        kind_number a.kind ∷ (type_bits a.kind + a.mode % 4096) ∷ a.links ∷ a.uid ∷ a.gid ∷ [],
        a.size ∷ 4096 ∷ 0 ∷ a.blocks ∷ 1 ∷ a.fileid ∷ [],
      ),
      a.atime,
    ),
    a.mtime,
  ),
  a.ctime,
)

kind_small : (k : Kind) → kind_number k < 2 ^ 32
kind_small Regular = omega arith
kind_small Directory = omega arith
kind_small Link = omega arith

bits_small : (k : Kind) → type_bits k ≤ 40960
bits_small Regular = omega arith
bits_small Directory = omega arith
bits_small Link = omega arith

undoes_parts : (a : Attr) → AttrFits a → Undoes parts_at (parts_of a) (fattr_bytes a)
unfolding fattr_bytes
undoes_parts a f =
    undoes_then _ _ _ _ _ _
    (undoes_then _ _ _ _ _ _
    (undoes_then _ _ _ _ _ _
    (undoes_then _ _ _ _ _ _
    (undoes_words (kind_number a.kind ∷ (type_bits a.kind + a.mode % 4096) ∷ a.links ∷ a.uid ∷ a.gid ∷ [])
    (kind_small a.kind, (omega (arith, bits_small a.kind), (f.1, (f.2, (f.3, tt))))))
    (undoes_words (a.size ∷ 4096 ∷ 0 ∷ a.blocks ∷ 1 ∷ a.fileid ∷ [])
    (f.4, (omega arith, (omega arith, (f.5, (omega arith, (f.6, tt))))))))
    (undoes_codec time_codec a.atime f.7))
    (undoes_codec time_codec a.mtime f.8))
    (undoes_codec time_codec a.ctime f.9)

attr_back : (a : Attr) → a.mode < 4096 → attr_of a.kind (parts_of a) ≡ a
attr_back a small =
    let is : type_bits a.kind + a.mode % 4096 - type_bits a.kind ≡ a.mode = omega (arith, small) in
    rw is refl

undoes_fattr : (a : Attr) → AttrFits a → a.mode < 4096 → Undoes fattr_at a (fattr_bytes a)
unfolding fattr_at
undoes_fattr a f small bytes at rest e =
    rw (undoes_parts a f bytes at rest e, whole_kind a.kind, attr_back a small) refl

-- ---- pages

undoes_entry : (d : DirEntry) → EntryFits d → Undoes entry_at d
    (u32_bytes d.fileid ++ opaque_bytes d.name ++ u32_bytes d.cookie)
unfolding entry_at
undoes_entry d f =
    undoes_made (λ x. record { fileid = x.0.0; name = x.0.1; cookie = x.1 }) _ ((d.fileid, d.name), d.cookie) _
    (undoes_then _ _ _ _ _ _
    (undoes_then _ _ _ _ _ _ (undoes_word d.fileid f.0) (undoes_opaque 255 (omega arith) d.name f.1))
    (undoes_word d.cookie f.2))

-- an entry behind its word
entry_parts : (d : DirEntry) (rest : List ℕ) → entry_bytes d ++ rest
    ≡ u32_bytes 1 ++ ((u32_bytes d.fileid ++ opaque_bytes d.name ++ u32_bytes d.cookie) ++ rest)
unfolding entry_bytes
entry_parts d rest =
    let one = u32_bytes 1 in
    let id = u32_bytes d.fileid in
    let name = opaque_bytes d.name in
    let cookie = u32_bytes d.cookie in
    ap (λ (s : List ℕ). ((one ++ s) ++ name ++ cookie) ++ rest) (append-nil id)
    ∙ append_assoc ((one ++ id) ++ name) cookie rest
    ∙ append_assoc (one ++ id) name (cookie ++ rest)
    ∙ append_assoc one id (name ++ (cookie ++ rest))
    ∙ ap (λ (s : List ℕ). one ++ s)
    (sym (append_assoc id name (cookie ++ rest)) ∙ sym (append_assoc (id ++ name) cookie rest))

undoes_entries : (ds : List DirEntry) (n : ℕ) → length ds < n → AllFit EntryFits ds
    → Undoes (entries_at n) ds (flat_map entry_bytes ds ++ u32_bytes 0)
unfolding entries_at
undoes_entries ds zero few fits bytes at rest e = absurd (omega (arith, few))
undoes_entries [] (suc n) few fits bytes at rest e =
    rw (undoes_word 0 (omega arith) bytes at rest e) refl
undoes_entries (d ∷ ds) (suc n) few fits bytes at rest e =
    let one = u32_bytes 1 in
    let this = u32_bytes d.fileid ++ opaque_bytes d.name ++ u32_bytes d.cookie in
    let later = flat_map entry_bytes ds ++ u32_bytes 0 in
    let grouped : (entry_bytes d ++ flat_map entry_bytes ds) ++ u32_bytes 0 ++ rest
    ≡ one ++ (this ++ (later ++ rest)) =
    ap (λ (s : List ℕ). s ++ rest) (append_assoc (entry_bytes d) (flat_map entry_bytes ds) (u32_bytes 0))
    ∙ append_assoc (entry_bytes d) later rest ∙ entry_parts d (later ++ rest) in
    let front = e ∙ grouped in
    let first = undoes_word 1 (omega arith) bytes at (this ++ (later ++ rest)) front in
    let past = drop_past bytes at one (this ++ (later ++ rest)) front in
    let second = undoes_entry d fits.0 bytes (at + length one) (later ++ rest) past in
    let past_this = drop_past bytes (at + length one) this (later ++ rest) past in
    let third = undoes_entries ds n (omega (arith, few)) fits.1 bytes
    (at + length one + length this) rest past_this in
    let all = ap (λ (s : List ℕ). length s) grouped in
    let len : at + length one + length this + length later
    ≡ at + length ((entry_bytes d ++ flat_map entry_bytes ds) ++ u32_bytes 0) =
    omega (
      arith,
      all,
      length-append one (this ++ (later ++ rest)),
      length-append this (later ++ rest),
      length-append later rest,
      length-append ((entry_bytes d ++ flat_map entry_bytes ds) ++ u32_bytes 0) rest,
    ) in
    rw (first, second, third, len) refl

-- ---- results

abbrev ok_reply : Reply → ℕ → Read Reply
ok_reply r n = Ok (r, n)

at_least : (ds : List DirEntry) → length ds ≤ length (flat_map entry_bytes ds)
unfolding entry_bytes u32_bytes
at_least [] = omega arith
at_least (d ∷ ds) =
    omega (
      arith,
      at_least ds,
      length-append (entry_bytes d) (flat_map entry_bytes ds),
      length-append (u32_bytes 1 ++ (u32_bytes d.fileid ++ []) ++ opaque_bytes d.name) (u32_bytes d.cookie),
    )

flag_small : (b : Bool) → flag_number b < 2 ^ 32
flag_small true = omega arith
flag_small false = omega arith

whole_flag : (b : Bool) → value_with_number flag_number flags (flag_number b) ≡ Some b
whole_flag true = refl
whole_flag false = refl

undoes_page : (ds : List DirEntry) (eof : Bool) → AllFit EntryFits ds
    → Undoes page_at (reply.Page ds eof) (flat_map entry_bytes ds ++ words (0 ∷ flag_number eof ∷ []))
undoes_page ds eof fits bytes at rest e =
    let all = flat_map entry_bytes ds in
    let zero_word = u32_bytes 0 in
    let flag = u32_bytes (flag_number eof) in
    let text = all ++ zero_word ++ flag in
    let grouped : all ++ words (0 ∷ flag_number eof ∷ []) ≡ text =
    ap (λ (s : List ℕ). all ++ (zero_word ++ s)) (append-nil flag) ∙ sym (append_assoc all zero_word flag) in
    let front = e ∙ ap (λ (s : List ℕ). s ++ rest) grouped in
    let fuel : length ds < length bytes + 1 =
    omega (
      arith,
      at_least ds,
      ap (λ (s : List ℕ). length s) e,
      length-drop at bytes,
      length-append (all ++ words (0 ∷ flag_number eof ∷ [])) rest,
      length-append all (words (0 ∷ flag_number eof ∷ [])),
    ) in
    let both = undoes_then (entries_at (length bytes + 1)) (number_of_at flag_number flags) ds eof
    (all ++ zero_word) flag (undoes_entries ds (length bytes + 1) fuel fits)
    (undoes_number flag_number flags eof (flag_small eof) (whole_flag eof)) in
    undoes_made (λ x. reply.Page x.0 x.1) _ (ds, eof) text both bytes at rest front
    ∙ ap (λ (s : List ℕ). Ok (reply.Page ds eof, at + length s)) (sym grouped)

status_small : (s : Status) → status_number s < 2 ^ 32
status_small status.Perm = omega arith
status_small status.NoEnt = omega arith
status_small status.Io = omega arith
status_small status.NxIo = omega arith
status_small status.Acces = omega arith
status_small status.Exist = omega arith
status_small status.NotDir = omega arith
status_small status.IsDir = omega arith
status_small status.FBig = omega arith
status_small status.NoSpc = omega arith
status_small status.NameTooLong = omega arith
status_small status.NotEmpty = omega arith
status_small status.Stale = omega arith

status_some : (s : Status) → eqb (status_number s) 0 ≡ false
status_some status.Perm = refl
status_some status.NoEnt = refl
status_some status.Io = refl
status_some status.NxIo = refl
status_some status.Acces = refl
status_some status.Exist = refl
status_some status.NotDir = refl
status_some status.IsDir = refl
status_some status.FBig = refl
status_some status.NoSpc = refl
status_some status.NameTooLong = refl
status_some status.NotEmpty = refl
status_some status.Stale = refl

whole_status : (s : Status) → value_with_number status_number statuses (status_number s) ≡ Some s
whole_status status.Perm = refl
whole_status status.NoEnt = refl
whole_status status.Io = refl
whole_status status.NxIo = refl
whole_status status.Acces = refl
whole_status status.Exist = refl
whole_status status.NotDir = refl
whole_status status.IsDir = refl
whole_status status.FBig = refl
whole_status status.NoSpc = refl
whole_status status.NameTooLong = refl
whole_status status.NotEmpty = refl
whole_status status.Stale = refl

-- behind the status 0
undoes_status : (done : Reader Reply) (r : Reply) (text : List ℕ) → Undoes done r text
    → Undoes (status_then done) r (u32_bytes 0 ++ text)
undoes_status done r text p bytes at rest e =
    let front = e ∙ append_assoc (u32_bytes 0) text rest in
    let first = undoes_word 0 (omega arith) bytes at (text ++ rest) front in
    let second = p bytes (at + length (u32_bytes 0)) rest
    (drop_past bytes at (u32_bytes 0) (text ++ rest) front) in
    let len : at + length (u32_bytes 0) + length text ≡ at + length (u32_bytes 0 ++ text) =
    omega (arith, length-append (u32_bytes 0) text) in
    rw (first, second, len) refl

undoes_refused : (done : Reader Reply) (s : Status)
    → Undoes (status_then done) (reply.Refused s) (u32_bytes (status_number s))
undoes_refused done s bytes at rest e =
    let first = undoes_word (status_number s) (status_small s) bytes at rest e in
    rw (first, status_some s, whole_status s) refl

-- ---- procedures

-- what is left out is NULL
result_reads : (p : Procedure) → can_be_refused p ≡ true
    → result_at p ≡ status_then (done_at (form_for p))
result_reads procedure.Null e = absurd cc
result_reads procedure.GetAttr e = refl
result_reads procedure.SetAttr e = refl
result_reads procedure.Lookup e = refl
result_reads procedure.ReadLink e = refl
result_reads procedure.Read e = refl
result_reads procedure.Write e = refl
result_reads procedure.Create e = refl
result_reads procedure.Remove e = refl
result_reads procedure.Rename e = refl
result_reads procedure.Link e = refl
result_reads procedure.SymLink e = refl
result_reads procedure.MkDir e = refl
result_reads procedure.RmDir e = refl
result_reads procedure.ReadDir e = refl
result_reads procedure.StatFs e = refl

result_says : (p : Procedure) (r : Reply) → can_be_refused p ≡ true → result_to p r ≡ result_of r
result_says procedure.Null r e = absurd cc
result_says procedure.GetAttr r e = refl
result_says procedure.SetAttr r e = refl
result_says procedure.Lookup r e = refl
result_says procedure.ReadLink r e = refl
result_says procedure.Read r e = refl
result_says procedure.Write r e = refl
result_says procedure.Create r e = refl
result_says procedure.Remove r e = refl
result_says procedure.Rename r e = refl
result_says procedure.Link r e = refl
result_says procedure.SymLink r e = refl
result_says procedure.MkDir r e = refl
result_says procedure.RmDir r e = refl
result_says procedure.ReadDir r e = refl
result_says procedure.StatFs r e = refl

some_form : (p : Procedure) (k : ℕ) → 1 < k → form_for p ≡ k → can_be_refused p ≡ true
some_form procedure.Null k more e = absurd (omega (arith, more, e))
some_form procedure.GetAttr k more e = refl
some_form procedure.SetAttr k more e = refl
some_form procedure.Lookup k more e = refl
some_form procedure.ReadLink k more e = refl
some_form procedure.Read k more e = refl
some_form procedure.Write k more e = refl
some_form procedure.Create k more e = refl
some_form procedure.Remove k more e = refl
some_form procedure.Rename k more e = refl
some_form procedure.Link k more e = refl
some_form procedure.SymLink k more e = refl
some_form procedure.MkDir k more e = refl
some_form procedure.RmDir k more e = refl
some_form procedure.ReadDir k more e = refl
some_form procedure.StatFs k more e = refl

undoes_result : (p : Procedure) (r : Reply) → can_be_refused p ≡ true
    → Undoes (status_then (done_at (form_for p))) r (result_of r) → Undoes (result_at p) r (result_to p r)
undoes_result p r e u = rw (result_reads p e, result_says p r e) u

-- a form with fields
undoes_form : (p : Procedure) (r : Reply) (text : List ℕ) (k : ℕ) → 1 < k → eqb (form_for p) k ≡ true
    → Undoes (done_at k) r text → result_of r ≡ u32_bytes 0 ++ text
    → Undoes (result_at p) r (result_to p r)
undoes_form p r text k more is u says =
    let form = eqb-true (form_for p) k is in
    undoes_result p r (some_form p k more form)
    (rw (form, says) (undoes_status (done_at k) r text u))

only_null : (p : Procedure) → can_be_refused p ≡ false
    → Undoes (result_at p) reply.Done (result_to p reply.Done)
only_null procedure.Null e = λ bytes at rest front. ap (λ (n : ℕ). ok_reply reply.Done n) (omega arith)
only_null procedure.GetAttr e = absurd cc
only_null procedure.SetAttr e = absurd cc
only_null procedure.Lookup e = absurd cc
only_null procedure.ReadLink e = absurd cc
only_null procedure.Read e = absurd cc
only_null procedure.Write e = absurd cc
only_null procedure.Create e = absurd cc
only_null procedure.Remove e = absurd cc
only_null procedure.Rename e = absurd cc
only_null procedure.Link e = absurd cc
only_null procedure.SymLink e = absurd cc
only_null procedure.MkDir e = absurd cc
only_null procedure.RmDir e = absurd cc
only_null procedure.ReadDir e = absurd cc
only_null procedure.StatFs e = absurd cc

undoes_nothing : (p : Procedure) (refused : Bool) → can_be_refused p ≡ refused → form_for p ≡ 1
    → Undoes (result_at p) reply.Done (result_to p reply.Done)
undoes_nothing p true e is = undoes_result p reply.Done e (rw is (λ bytes at rest front.
    rw (undoes_word 0 (omega arith) bytes at rest front) refl))
undoes_nothing p false e is = only_null p e

reads_back : (c : Call) (r : Reply) → is_reply_to c r ≡ true → ReplyFits r → ModesFit r
    → Undoes (result_at (procedure_of c)) r (result_to (procedure_of c) r)
reads_back c (reply.Refused s) is fits modes =
    undoes_result (procedure_of c) (reply.Refused s) is (undoes_refused (done_at (form_for (procedure_of c))) s)
reads_back c reply.Done is fits modes =
    undoes_nothing (procedure_of c) (can_be_refused (procedure_of c)) refl
    (eqb-true (form_for (procedure_of c)) 1 is)
reads_back c (reply.Attr a) is fits modes =
    undoes_form (procedure_of c) (reply.Attr a) (fattr_bytes a) 2 (omega arith) is
    (undoes_made reply.Attr fattr_at a _ (undoes_fattr a fits modes)) refl
reads_back c (reply.Node h a) is fits modes =
    undoes_form (procedure_of c) (reply.Node h a) (handle_bytes h ++ fattr_bytes a) 3 (omega arith) is
    (undoes_made (λ x. reply.Node x.0 x.1) _ (h, a) _
    (undoes_then _ _ _ _ _ _ (undoes_handle h fits.0) (undoes_fattr a fits.1 modes)))
    (append_assoc (u32_bytes 0) (handle_bytes h) (fattr_bytes a))
reads_back c (reply.Path t) is fits modes =
    undoes_form (procedure_of c) (reply.Path t) (opaque_bytes t) 4 (omega arith) is
    (undoes_made reply.Path _ t _ (undoes_opaque 1024 (omega arith) t fits)) refl
reads_back c (reply.Bytes a b) is fits modes =
    undoes_form (procedure_of c) (reply.Bytes a b) (fattr_bytes a ++ opaque_bytes b) 5 (omega arith) is
    (undoes_made (λ x. reply.Bytes x.0 x.1) _ (a, b) _
    (undoes_then _ _ _ _ _ _ (undoes_fattr a fits.0 modes) (undoes_opaque 8192 (omega arith) b fits.1)))
    (append_assoc (u32_bytes 0) (fattr_bytes a) (opaque_bytes b))
reads_back c (reply.Page ds eof) is fits modes =
    undoes_form (procedure_of c) (reply.Page ds eof)
    (flat_map entry_bytes ds ++ words (0 ∷ flag_number eof ∷ [])) 6 (omega arith) is
    (undoes_page ds eof fits.1)
    (append_assoc (u32_bytes 0) (flat_map entry_bytes ds) (words (0 ∷ flag_number eof ∷ [])))
reads_back c (reply.Space t b n f a) is fits modes =
    undoes_form (procedure_of c) (reply.Space t b n f a) (words (t ∷ b ∷ n ∷ f ∷ a ∷ [])) 7 (omega arith) is
    (undoes_made (λ x. reply.Space (slice_index x 0) (slice_index x 1) (slice_index x 2)
    (slice_index x 3) (slice_index x 4)) _ (t ∷ b ∷ n ∷ f ∷ a ∷ []) _
    (undoes_words (t ∷ b ∷ n ∷ f ∷ a ∷ []) (fits.0, (fits.1, (fits.2, (fits.3, (fits.4, tt))))))) refl

pub result_read : (c : Call) (r : Reply) (rest : List ℕ) → is_reply_to c r ≡ true → ReplyFits r
    → ModesFit r → result_at (procedure_of c) (result_to (procedure_of c) r ++ rest) 0
    ≡ Ok (r, length (result_to (procedure_of c) r))
result_read c r rest is fits modes =
    let text = result_to (procedure_of c) r in
    reads_back c r is fits modes (text ++ rest) 0 rest refl
    ∙ ap (λ (n : ℕ). ok_reply r n) (omega arith)
