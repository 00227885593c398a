pub mod Codes
pub mod CodeLaws
pub mod ExportCodes
pub mod ExportCodeLaws
pub mod Words
pub mod WordLaws
