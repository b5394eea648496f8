pub mod Utf16
pub mod Utf8
pub mod Text
pub mod First
pub mod Decoding
pub mod Promise
pub mod Decimal
pub mod Ascii
