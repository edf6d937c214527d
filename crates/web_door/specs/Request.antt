-- What a request's head asks for: RFC 9112 (requests), RFC 6455 section 4 (handshakes) and section 10.2 (origins).
use Rattle.std.specs.Prelude.{◌≡◌, ◌↔◌, ◌⊎◌, ℕ, ◌<◌, ◌≤◌, IsTrue, List, ◌++◌, option_map}
use Rattle.std.specs.Prelude.{Any, take, map, length, codes, String, string_bytes, IsUtf8}
use Rattle.std.specs.Prelude.{Option, Some, None, IsSome, IsNone, IfSome, Result, Ok, Err}
use Rattle.std.specs.declared.alloc.Global.{Global}
use Rattle.httparse.specs.declared.spans.HeaderSpan.{HeaderSpan}
use Rattle.httparse.specs.declared.spans.RequestSpans.{RequestSpans}
use Rattle.std.specs.Io.KnownBytes.{Consumes}
use Rattle.httparse.specs.Grammar.{RequestHead, ReadsRequest, HasNoRequest, NeverHasRequest}
use Rattle.httparse.specs.Spans.{span_bytes, name_and_value, IsRequestWithin, IsRequestOf, RequestExceeds}
use Rattle.websocket.specs.declared.handshake.failure.HandshakeError.{HandshakeError}
use Rattle.websocket.specs.Handshake.{requested_key, Answers}
use Rattle.websocket.specs.Headers.{Fields, fields_of, header_value}
use Rattle.web_door.specs.declared.head.Asked.{Asked}
use Rattle.web_door.specs.declared.head.Asked.TheVariants.{Session, File, Refused}
use Rattle.web_door.specs.declared.head.Opening.{Opening}
use Rattle.web_door.specs.declared.head.Refusal.{Refusal}
use Rattle.web_door.specs.declared.head.Refusal.TheVariants.{BadRequest, Forbidden, NotFound, MethodNotAllowed}
use Rattle.web_door.specs.declared.head.Refusal.TheVariants.{RequestTimeout, HeadTooLarge}

-- the parts of a head
pub record Request : Type 0 where
  pub method : List ℕ
  pub path : List ℕ
  -- 1 of HTTP/1.1
  pub minor : ℕ
  pub fields : Fields

abbrev pub request_of : List ℕ → List HeaderSpan → RequestSpans → Request
request_of head spans found = record {
  method = span_bytes head found.method;
  path = span_bytes head found.path;
  minor = found.version;
  fields = fields_of head (take found.headers spans);
}

abbrev pub parts_of : RequestHead → Request
parts_of head = record {
  method = head.method;
  path = head.target;
  minor = head.minor;
  fields = map name_and_value head.fields;
}

abbrev pub IsGet : Request → Type 0
IsGet request = request.method ≡ codes "GET"

-- only the head of an answer is asked for
abbrev pub IsHead : Request → Type 0
IsHead request = request.method ≡ codes "HEAD"

-- the methods that are answered
abbrev pub IsTaken : Request → Type 0
IsTaken request = IsGet request ⊎ IsHead request

abbrev pub NamesSession : Request → Type 0
NamesSession request = request.path ≡ codes "/session"

-- the answer to the key of a right handshake, or why it isn't one
abbrev pub accept_of : Request → Result (List ℕ) HandshakeError
accept_of request = requested_key request.method request.minor request.fields

-- the Sec-WebSocket-Key that any handshake has
abbrev pub handshake_key : Request → Option (List ℕ)
handshake_key request = header_value request.fields (codes "Sec-WebSocket-Key")

-- the tags of what the client has
abbrev pub known_tags : Request → Option (List ℕ)
known_tags request = header_value request.fields (codes "If-None-Match")

-- the path as a text, if it is one
abbrev pub IsNameOf : List ℕ → Option (String Global) → Type 0
IsNameOf path (Some name) = string_bytes name ≡ path
IsNameOf path None = ¬ (IsUtf8 path)

-- the spans are those of the head at the front
abbrev pub IsHeadAt : List ℕ → List HeaderSpan → RequestSpans → Type 0
IsHeadAt read spans found = IsRequestWithin read spans found × IsRequestOf read spans found × (found.len ≤ 16384)

-- why bytes that were read become no head that is taken
abbrev pub IsNoHead : List ℕ → Refusal → Type 0
IsNoHead read BadRequest = NeverHasRequest read
IsNoHead read HeadTooLarge = RequestExceeds 64 read ⊎ (16384 ≤ length read)
IsNoHead read _ = ⊥

-- some bytes were read behind those that were read
abbrev pub ReadsMore : Option (List ℕ) → Option (List ℕ) → List ℕ → List ℕ → Type 0
ReadsMore old new before after = (bytes : List ℕ) × Consumes old new bytes × (after ≡ before ++ bytes)

module _ {S : Type 0} (text : S → List ℕ) (origins : List S) where
  -- one of the texts is this origin
  abbrev pub IsListed : List ℕ → Type 0
  IsListed origin = Any (λ one. text one ≡ origin) origins

  -- who sent this Origin may begin a session: a page of a listed origin, or no page, since a browser always sends one
  abbrev pub IsWelcome : Option (List ℕ) → Type 0
  IsWelcome origin = IfSome origin IsListed

  abbrev pub IsFromWelcome : Request → Type 0
  IsFromWelcome request = IsWelcome (header_value request.fields (codes "Origin"))

  -- the first of these reasons that there is
  abbrev pub IsRefused : Request → Refusal → Type 0
  IsRefused request MethodNotAllowed = ¬ (IsTaken request)
  IsRefused request Forbidden = IsTaken request × NamesSession request × ¬ (IsFromWelcome request)
  IsRefused request BadRequest = IsTaken request
      × ((NamesSession request × IsFromWelcome request × ((e : HandshakeError) × Answers (Err e) (accept_of request)))
      ⊎ (¬ (NamesSession request) × IsNone (handshake_key request) × ¬ (IsUtf8 request.path)))
  IsRefused request NotFound = IsTaken request × ¬ (NamesSession request) × IsSome (handshake_key request)
  IsRefused request RequestTimeout = ⊥
  IsRefused request HeadTooLarge = ⊥

  -- what a whole head asks for
  abbrev pub IsAsked : Request → Asked → Type 0
  IsAsked request (Session accept) =
      IsGet request × NamesSession request × IsFromWelcome request × Answers (Ok accept) (accept_of request)
  IsAsked request (File file) =
      IsTaken request × ¬ (NamesSession request) × IsNone (handshake_key request)
      × (string_bytes file.path ≡ request.path) × (option_map (λ tags. tags.items) file.known ≡ known_tags request)
  IsAsked request (Refused refusal) = IsRefused request refusal

  -- what bytes ask for whose front is a request's head, whether for an answer's head alone, and what follows it
  abbrev pub ReadsAsked : List ℕ → Opening → Type 0
  ReadsAsked read opening =
      (head : RequestHead) × ReadsRequest read head opening.rest.items × IsAsked (parts_of head) opening.asked
      × (IsTrue opening.is_head ↔ IsHead (parts_of head))

  -- what bytes ask for that were read so far; none where the end of a head is still to come
  abbrev pub IsOpenedBy : List ℕ → Option Opening → Type 0
  IsOpenedBy read None = HasNoRequest read × (length read < 16384)
  IsOpenedBy read (Some opening) =
      ReadsAsked read opening ⊎ ((refusal : Refusal) × (opening.asked ≡ Refused refusal) × IsNoHead read refusal)

  -- what is said of a request of which these bytes were read: what they ask for, or that its head did not come in time
  abbrev pub IsOpening : List ℕ → Opening → Type 0
  IsOpening read opening = IsOpenedBy read (Some opening) ⊎ (opening.asked ≡ Refused RequestTimeout)
