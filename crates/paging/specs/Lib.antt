-- What a page of a listing is, whatever is listed: `Key` orders the keys, `Page` says what a call
-- hands out, and `Calls` follows a sequence of calls.
pub mod Calls
pub mod Key
pub mod Page
pub mod Private
